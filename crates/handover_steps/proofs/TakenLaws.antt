-- Keys that are taken, as the loops meet them.
use Rattle.std.proofs.Common.{◌≡◌, ◌+◌, ◌*◌, ◌<◌, ◌≤◌, ◌⊎◌, ◌++◌, ℕ, List, [], ◌∷◌, Bool, true, false, Option, Some, None, cond, length, take, get_or, min, refl, sym, ap, subst, inl, inr, ◌∙◌, arith}
use Rattle.std.specs.List.{Contains}
use Rattle.std.specs.declared.alloc.Global.{Global}
use Rattle.std.specs.declared.vec.Vec.{Vec}
use Rattle.std.proofs.lemmas.Bool.{cases_lt}
use Rattle.std.proofs.lemmas.List.{map-append, take_more}
use Rattle.std.proofs.lemmas.List.Elements.{Contains-append_cases, Contains-append_left, Contains-append_right}
use Rattle.blocks.proofs.Members.{Contains-first, Has-from_Contains}
use Rattle.blocks.specs.Committees.{IsCommittee, has_many_keys, keys_of, n_of, room_of}
use Rattle.blocks.specs.CommitteeReading.{key_number}
use Rattle.handover_blocks.specs.OldKeys.{AreNewKeys, IsFirstOldKeyOf, IsKeyOf, public_key_at}
use Rattle.lms_tree.specs.declared.public_key.PublicKey.{PublicKey}
use Rattle.handover_steps.specs.Least.{IsLeast, lesser}
use Rattle.handover_steps.specs.Successors.{IsKeyOfAny, IsExempt, IsSuccessorFile, IsTakenNumber, files_of}

-- ---- the lesser of two

pub least_of_two : (P Q R : ℕ → Type 0) (a b : Option ℕ) → IsLeast P a → IsLeast Q b
    → ((n : ℕ) → P n → R n) → ((n : ℕ) → Q n → R n) → ((n : ℕ) → R n → P n ⊎ Q n) → IsLeast R (lesser a b)
least_of_two P Q R None None p q left right back = λ n r. elim (back n r) [ inl h ↦ p n h | inr h ↦ q n h ]
least_of_two P Q R None (Some y) p q left right back =
    (right y q.0, λ n r. elim (back n r) [ inl h ↦ absurd (p n h) | inr h ↦ q.1 n h ])
least_of_two P Q R (Some x) None p q left right back =
    (left x p.0, λ n r. elim (back n r) [ inl h ↦ p.1 n h | inr h ↦ absurd (q n h) ])
least_of_two P Q R (Some x) (Some y) p q left right back = (
  elim (cases_lt x y) [
    | inl l ↦ let e : x ≡ min x y = omega arith in subst R e (left x p.0)
    | inr l ↦ let e : y ≡ min x y = omega arith in subst R e (right y q.0)
  ],
  λ n r. elim (back n r) [
    | inl h ↦ let l : x ≤ n = p.1 n h in omega arith
    | inr h ↦ let l : y ≤ n = q.1 n h in omega arith
  ],
)

-- ---- one more file

-- of more files more keys are taken
wider : (files more : List (List ℕ)) (old new : List ℕ) (n : ℕ) → ((file : List ℕ) → Contains files file → Contains more file)
    → IsTakenNumber files old new n → IsTakenNumber more old new n
wider files more old new n into t = record {
  slot = t.slot;
  key = t.key;
  of = record {
    known = t.of.known;
    has = t.of.has;
    taken = (t.of.taken.0, into t.of.taken.0 t.of.taken.1, t.of.taken.2, t.of.taken.3);
    not_exempt = t.of.not_exempt;
  };
  numbered = t.numbered;
}

-- .. and each is of some of them
either : (files more : List (List ℕ)) (old new : List ℕ) (n : ℕ) → IsTakenNumber (files ++ more) old new n
    → IsTakenNumber files old new n ⊎ IsTakenNumber more old new n
either files more old new n t =
    let file = t.of.taken.0 in
    elim (Contains-append_cases files more file t.of.taken.1) [
      | inl m ↦ inl (record {
        slot = t.slot;
        key = t.key;
        of = record { known = t.of.known; has = t.of.has; taken = (file, m, t.of.taken.2, t.of.taken.3); not_exempt = t.of.not_exempt };
        numbered = t.numbered;
      })
      | inr m ↦ inr (record {
        slot = t.slot;
        key = t.key;
        of = record { known = t.of.known; has = t.of.has; taken = (file, m, t.of.taken.2, t.of.taken.3); not_exempt = t.of.not_exempt };
        numbered = t.numbered;
      })
    ]

least_of_both : (files more : List (List ℕ)) (old new : List ℕ) (a b : Option ℕ)
    → IsLeast (IsTakenNumber files old new) a → IsLeast (IsTakenNumber more old new) b → IsLeast (IsTakenNumber (files ++ more) old new) (lesser a b)
least_of_both files more old new a b p q =
    least_of_two (IsTakenNumber files old new) (IsTakenNumber more old new) (IsTakenNumber (files ++ more) old new) a b p q
    (λ n. wider files (files ++ more) old new n (λ file. Contains-append_left files more file))
    (λ n. wider more (files ++ more) old new n (λ file. Contains-append_right files more file))
    (λ n. either files more old new n)

files_more : (fs : List (Vec ℕ Global)) (i : ℕ) (f : Vec ℕ Global) → i < length fs → f ≡ get_or fs i f
    → files_of (take (i + 1) fs) ≡ files_of (take i fs) ++ f.items ∷ []
files_more fs i f below is =
    ap files_of (take_more fs i f below) ∙ map-append (λ (v : Vec ℕ Global). v.items) (take i fs) (get_or fs i f ∷ [])
    ∙ ap (λ (v : Vec ℕ Global). files_of (take i fs) ++ v.items ∷ []) (sym is)

pub least_more : (fs : List (Vec ℕ Global)) (i : ℕ) (f : Vec ℕ Global) (old new : List ℕ) (a b : Option ℕ) → i < length fs → f ≡ get_or fs i f
    → IsLeast (IsTakenNumber (old ∷ files_of (take i fs)) old new) a → IsLeast (IsTakenNumber (f.items ∷ []) old new) b
    → IsLeast (IsTakenNumber (old ∷ files_of (take (i + 1) fs)) old new) (lesser a b)
least_more fs i f old new a b below is p q =
    subst (λ (files : List (List ℕ)). IsLeast (IsTakenNumber (old ∷ files) old new) (lesser a b)) (sym (files_more fs i f below is))
    (least_of_both (old ∷ files_of (take i fs)) (f.items ∷ []) old new a b p q)

-- ---- one file

-- it is the only one
only_file : (file other : List ℕ) → Contains (file ∷ []) other → file ≡ other
only_file file other m = elim (Has-from_Contains (file ∷ []) other m) [ inl e ↦ e | inr h ↦ absurd h ]

of_only : (file : List ℕ) (key : PublicKey) → IsKeyOfAny (file ∷ []) key → IsKeyOf file key
of_only file key h = subst (λ (f : List ℕ). IsKeyOf f key) (sym (only_file file h.0 h.1)) h.3

-- no key of the slots before this one is taken
abbrev pub AreFree : (file old new : List ℕ) → ℕ → Type 0
AreFree file old new slot = (s : ℕ) → s < slot → (IsExempt old new s → ⊥) → AreNewKeys file new s (keys_of new s)

pub none_of : (file old new : List ℕ) (slot : ℕ) → n_of new ≤ slot → AreFree file old new slot → IsLeast (IsTakenNumber (file ∷ []) old new) None
none_of file old new slot end free n t =
    let known : t.slot < n_of new = t.of.known in
    free t.slot (omega arith) t.of.not_exempt t.key t.of.has (of_only file (public_key_at new t.slot t.key) t.of.taken)

fits_by : (many : Bool) (counted k : ℕ) → k < cond many counted 1 → k < 4 → k < cond many 4 1
fits_by true counted k has few = few
fits_by false counted k has few = has

fits : (committee : List ℕ) (slot k : ℕ) → k < keys_of committee slot → k < 4 → k < room_of committee
unfolding keys_of
fits committee slot k has few = fits_by (has_many_keys committee) _ k has few

rises_by : (many : Bool) (r k s j : ℕ) → k < cond many 4 1 → r < s → cond many 4 1 * r + k ≤ cond many 4 1 * s + j
rises_by true r k s j inside less = omega arith
rises_by false r k s j inside less = omega arith

-- the keys of a slot have lesser numbers than those of slots behind it
number_rises : (committee : List ℕ) (r k s j : ℕ) → k < room_of committee → r < s → key_number committee r k ≤ key_number committee s j
number_rises committee r k s j inside less = rises_by (has_many_keys committee) r k s j inside less

up : (x k j : ℕ) → k ≤ j → x + k ≤ x + j
up x k j l = omega arith

pub found_of : (file old new : List ℕ) (slot k : ℕ) → IsCommittee file → slot < n_of new → k < 4 → (IsExempt old new slot → ⊥)
    → AreFree file old new slot → IsFirstOldKeyOf file new slot k → IsLeast (IsTakenNumber (file ∷ []) old new) (Some (key_number new slot k))
found_of file old new slot k is known few not_exempt free first = (
  record {
    slot = slot;
    key = k;
    of = record {
      known = known;
      has = first.has;
      taken = (file, Contains-first file [], is, first.is_old);
      not_exempt = not_exempt;
    };
    numbered = refl;
  },
  λ n t.
      let key_of = of_only file (public_key_at new t.slot t.key) t.of.taken in
      let place : n ≡ key_number new t.slot t.key = t.numbered in
      elim (cases_lt t.slot slot) [
        | inl l ↦ absurd (free t.slot l t.of.not_exempt t.key t.of.has key_of)
        | inr l ↦ elim (cases_lt slot t.slot) [
          | inl m ↦ subst (λ (x : ℕ). key_number new slot k ≤ x) (sym place) (number_rises new slot k t.slot t.key (fits new slot k first.has few) m)
          | inr m ↦
              let same : t.slot ≡ slot = omega arith in
              elim (cases_lt t.key k) [
                | inl below ↦ absurd (first.before t.key below (subst (λ (s : ℕ). IsKeyOf file (public_key_at new s t.key)) same key_of))
                | inr above ↦ subst (λ (x : ℕ). key_number new slot k ≤ x) (sym place) (
                    subst (λ (s : ℕ). key_number new slot k ≤ key_number new s t.key) (sym same) (up (room_of new * slot) k t.key above))
              ]
        ]
      ],
)

-- ---- the file as a whole

pub free_file : (earlier : List (List ℕ)) (old file : List ℕ) → IsCommittee file → IsLeast (IsTakenNumber (old ∷ earlier) old file) None → IsSuccessorFile earlier old file
free_file earlier old file is none =
    (is, λ slot k t. none (key_number file slot k) (record { slot = slot; key = k; of = t; numbered = refl }))
