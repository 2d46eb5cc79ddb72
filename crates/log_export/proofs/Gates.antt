-- The payloads of a journal's bytes, as the loop meets them.
use Rattle.std.specs.Prelude.{slice_index_or}
use Rattle.std.proofs.Common.{◌≡◌, ◌≢◌, ◌⊎◌, inl, inr, ℕ, ◌+◌, ◌-◌, ◌<◌, get_or, ◌≤◌, List, [], ◌∷◌, ◌++◌, Bool, true, false, length, take, drop, map, All, Bor, refl, sym, ap, subst, ◌∙◌, arith, append_assoc}
use Rattle.std.specs.Bool.{MatchBool}
use Rattle.std.specs.List.{flat_map}
use Rattle.std.proofs.lemmas.List.{length-append, length_push, take_all, take_more, flat_map_more, take-append-drop}
use Rattle.std.proofs.lemmas.List.Elements.{All-nil, All-push}
use Rattle.base_wire.specs.Pieces.{number_at}
use Rattle.base_wire.specs.Payloads.{IsPayload}
use Rattle.log_format.specs.Exports.{frame_text}
use Rattle.log_format.specs.Fronts.{IsFrame}
use Rattle.log_format.proofs.Texts.{frame_has_length, frame_fits, length-frame_text}
use Rattle.stable_log.specs.Image.{StandsFor, journal_text, magic, payload_text}
use Rattle.log_export.specs.Splits.{HasNoEntry, IsClosed, IsDamage, IsEntry, IsFrontOf, IsRestBehind, JournalReading}

-- ---- a payload behind its length

abbrev pub HasNoFrame : List ℕ → Type 0
HasNoFrame text = (payload behind : List ℕ) → IsFrame text payload behind → ⊥

pub no_frame_short : (text : List ℕ) → length text < 4 → HasNoFrame text
no_frame_short text short payload behind f = let h = frame_has_length text payload behind f.size f.split in omega (arith, h.came, short)

pub no_frame_of : (text : List ℕ) (n : ℕ) → number_at 4 text 0 ≡ n → (n ≡ 0) ⊎ (65536 < n) → HasNoFrame text
no_frame_of text n is (inl none) payload behind f = let h = frame_has_length text payload behind f.size f.split in omega (arith, h.some, is, none)
no_frame_of text n is (inr great) payload behind f = let h = frame_has_length text payload behind f.size f.split in omega (arith, h.fits, is, great)

pub no_frame_cut : (text : List ℕ) (n : ℕ) → number_at 4 text 0 ≡ n → length text < 4 + n → HasNoFrame text
no_frame_cut text n is short payload behind f = omega (arith, frame_fits text payload behind f.size f.split, is, short)

-- ---- at a gate

text_is : (payload : List ℕ) → payload_text payload ≡ 1 ∷ frame_text payload
unfolding frame_text
text_is payload = refl

pub entry_is : (rest text payload behind : List ℕ) → rest ≡ 1 ∷ text → IsFrame text payload behind → IsEntry rest payload behind
entry_is rest text payload behind gate f = record {
  split = gate ∙ ap (λ (t : List ℕ). 1 ∷ t) f.split ∙ ap (λ (t : List ℕ). t ++ behind) (sym (text_is payload));
  size = f.size;
}

tail_of : (x y : ℕ) (xs ys : List ℕ) → x ∷ xs ≡ y ∷ ys → xs ≡ ys
tail_of x y xs ys e = ap (λ (t : List ℕ). drop 1 t) e

head_of : (x y : ℕ) (xs ys : List ℕ) → x ∷ xs ≡ y ∷ ys → x ≡ y
head_of x y xs ys e = ap (λ (t : List ℕ). slice_index_or t 0 0) e

pub no_entry : (rest text : List ℕ) → rest ≡ 1 ∷ text → HasNoFrame text → HasNoEntry rest
no_entry rest text gate none payload behind e = none payload behind (record {
  split = tail_of 1 1 text (frame_text payload ++ behind) (sym gate ∙ e.split ∙ ap (λ (t : List ℕ). t ++ behind) (text_is payload));
  size = e.size;
})

pub not_closed : (rest text : List ℕ) → rest ≡ 1 ∷ text → IsClosed rest → ⊥
not_closed rest text gate closed = closed.closed (sym (head_of 1 closed.gate text closed.more (sym gate ∙ closed.split)))

pub damaged_gate : (count : ℕ) (rest text : List ℕ) → rest ≡ 1 ∷ text → (count ≡ 4096) ⊎ HasNoFrame text → IsDamage count rest
damaged_gate count rest text gate (inl full) = record { open_or_none = not_closed rest text gate; no_more = inl full }
damaged_gate count rest text gate (inr none) = record { open_or_none = not_closed rest text gate; no_more = inr (no_entry rest text gate none) }

pub damaged_end : (count : ℕ) (rest : List ℕ) → rest ≡ [] → IsDamage count rest
damaged_end count rest none = record {
  open_or_none = λ closed. omega (arith, ap length (sym none ∙ closed.split));
  no_more = inr (λ payload behind e. omega (arith, ap length (sym none ∙ e.split), length-append (payload_text payload) behind, ap length (text_is payload), length-frame_text payload));
}

-- ---- gate by gate

abbrev pub parts : List (Bor (List ℕ)) → List (List ℕ)
parts payloads = map (λ p. p.now) payloads

pub behind_none : (bytes rest : List ℕ) → take 8 bytes ≡ magic → rest ≡ drop 8 bytes → IsRestBehind bytes [] rest
behind_none bytes rest begins is = record {
  split = sym (take-append-drop 8 bytes) ∙ ap (λ (t : List ℕ). t ++ drop 8 bytes) begins ∙ ap (λ (t : List ℕ). magic ++ t) (sym is);
  sound = record { sizes = All-nil IsPayload; few = omega arith };
}

pub behind_more : (bytes : List ℕ) (payloads : List (List ℕ)) (rest payload behind : List ℕ) → IsRestBehind bytes payloads rest → length payloads < 4096 → IsEntry rest payload behind
    → IsRestBehind bytes (payloads ++ payload ∷ []) behind
behind_more bytes payloads rest payload behind so_far room e = record {
  split = so_far.split ∙ ap (λ (t : List ℕ). journal_text payloads ++ t) e.split
      ∙ sym (append_assoc (journal_text payloads) (payload_text payload) behind)
      ∙ ap (λ (t : List ℕ). t ++ behind) (append_assoc magic (flat_map payload_text payloads) (payload_text payload))
      ∙ ap (λ (t : List ℕ). (magic ++ t) ++ behind) (flat_map_more payload_text [] payloads payload);
  sound = record { sizes = All-push IsPayload payloads payload so_far.sound.sizes e.size; few = omega (arith, room, length_push payloads payload) };
}

pub shorter : (rest payload behind : List ℕ) → IsEntry rest payload behind → length behind < length rest
shorter rest payload behind e = omega (arith, ap length e.split, length-append (payload_text payload) behind, ap length (text_is payload), length-frame_text payload)

pub stands : (bytes : List ℕ) (payloads : List (List ℕ)) (rest : List ℕ) → IsRestBehind bytes payloads rest → IsClosed rest → StandsFor bytes payloads
stands bytes payloads rest behind closed = record {
  gate = closed.gate;
  rest = closed.more;
  split = behind.split ∙ ap (λ (t : List ℕ). journal_text payloads ++ t) closed.split;
  closed = closed.closed;
  sizes = behind.sound.sizes;
  few = behind.sound.few;
}

-- an open gate and what stands behind it, as the code cuts it
pub open_text : (rest : List ℕ) → 0 < length rest → get_or rest 0 0 ≡ 1 → rest ≡ 1 ∷ take (length rest - 1) (drop 1 rest)
open_text [] some gate = absurd (omega (arith, some))
open_text (x ∷ xs) some gate =
    ap (λ (y : ℕ). y ∷ xs) gate ∙ ap (λ (t : List ℕ). 1 ∷ t) (sym (take_all (length (x ∷ xs) - 1) xs (omega arith)))

pub all_more : (P : List ℕ → Type 0) (xs : List (List ℕ)) (k : ℕ) → k < length xs → All P (take k xs) → P (slice_index_or xs k []) → All P (take (k + 1) xs)
all_more P xs k l all p = subst (All P) (sym (take_more xs k [] l)) (All-push P (take k xs) (slice_index_or xs k []) all p)

pub all_of : (P : List ℕ → Type 0) (xs : List (List ℕ)) (k : ℕ) → length xs ≤ k → All P (take k xs) → All P xs
all_of P xs k l all = subst (All P) (take_all k xs l) all
