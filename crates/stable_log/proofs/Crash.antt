-- What a crash leaves in each of the two steps of an append.
use Rattle.std.proofs.Common.{◌≡◌, ◌≢◌, inl, inr, ℕ, ◌+◌, ◌<◌, List, [], ◌∷◌, ◌++◌, length, get_or, take, drop, All, sym, ◌∙◌, ap, subst, arith, append_assoc, length-append, take-append-drop}
use Rattle.std.proofs.lemmas.List.{take_at, drop_at, drop_more, take_all, append-nil, take-take}
use Rattle.std.proofs.lemmas.List.Elements.{All-push}
use Rattle.std.proofs.lemmas.Bool.{cases_eq}
use Rattle.std.specs.List.{flat_map}
use Rattle.byteorder.specs.Endian.{big_bytes}
use Rattle.stable_log.specs.Crash.{Torn}
use Rattle.stable_log.specs.Disk.{written}
use Rattle.base_wire.specs.Payloads.{IsPayload}
use Rattle.stable_log.specs.Image.{magic, payload_text, staged_text, journal_text, StandsFor, IsBeforeOrAfter}

flat_map-append : (f : List ℕ → List ℕ) (xs : List (List ℕ)) (x : List ℕ) → flat_map f (xs ++ x ∷ []) ≡ flat_map f xs ++ f x
flat_map-append f [] x = append-nil (f x)
flat_map-append f (y ∷ xs) x = ap (λ (l : List ℕ). f y ++ l) (flat_map-append f xs x) ∙ sym (append_assoc (f y) (flat_map f xs) (f x))

-- the text of one payload more
pub text-push : (payloads : List (List ℕ)) (p : List ℕ) → journal_text (payloads ++ p ∷ []) ≡ journal_text payloads ++ payload_text p
text-push payloads p = ap (λ (l : List ℕ). magic ++ l) (flat_map-append payload_text payloads p) ∙ sym (append_assoc magic (flat_map payload_text payloads) (payload_text p))

-- an open gate with what `append` staged behind it is an entry and a closed gate
pub opened_entry : (payloads : List (List ℕ)) (p junk : List ℕ) → journal_text payloads ++ 1 ∷ (staged_text p ++ junk) ≡ journal_text (payloads ++ p ∷ []) ++ 0 ∷ junk
opened_entry payloads p junk =
    let size = big_bytes 4 (length p) in
    let inner : staged_text p ++ junk ≡ (size ++ p) ++ 0 ∷ junk =
    append_assoc size (p ++ 0 ∷ []) junk ∙ ap (λ (l : List ℕ). size ++ l) (append_assoc p (0 ∷ []) junk) ∙ sym (append_assoc size p (0 ∷ junk)) in
    ap (λ (l : List ℕ). journal_text payloads ++ 1 ∷ l) inner ∙ sym (append_assoc (journal_text payloads) (payload_text p) (0 ∷ junk))
    ∙ ap (λ (l : List ℕ). l ++ 0 ∷ junk) (sym (text-push payloads p))

-- a file of a text, a gate and what stands behind it
module _ (text : List ℕ) (gate : ℕ) (tail : List ℕ) (end : ℕ) (gate_at : end ≡ length text) where
  abbrev file : List ℕ
  file = text ++ gate ∷ tail

  long : length file ≡ end + 1 + length tail
  long = omega (arith, length-append text (gate ∷ tail))

  gated : length (text ++ gate ∷ []) ≡ end + 1
  gated = omega (arith, length-append text (gate ∷ []))

  split : file ≡ (text ++ gate ∷ []) ++ tail
  split = sym (append_assoc text (gate ∷ []) tail)

  front : take (end + 1) file ≡ text ++ gate ∷ []
  front = ap (λ (l : List ℕ). take (end + 1) l) split ∙ take_at (text ++ gate ∷ []) tail (end + 1) gated

  back : drop (end + 1) file ≡ tail
  back = ap (λ (l : List ℕ). drop (end + 1) l) split ∙ drop_at (text ++ gate ∷ []) tail (end + 1) gated

  -- the gate stands in each outcome of a write behind it
  pub torn_behind : (n : ℕ) (c : List ℕ) → Torn (end + 1) n file c → c ≡ text ++ gate ∷ drop (end + 1) c
  torn_behind n c torn =
      let same : take (end + 1) c ≡ text ++ gate ∷ [] = sym (take-take (end + 1) (length file) c (omega (arith, long))) ∙ torn.before ∙ front in
      sym (take-append-drop (end + 1) c) ∙ ap (λ (l : List ℕ). l ++ drop (end + 1) c) same ∙ append_assoc text (gate ∷ []) (drop (end + 1) c)

  pub written_behind : (bytes : List ℕ) → written file (end + 1) bytes ≡ text ++ gate ∷ (bytes ++ drop (end + 1 + length bytes) file)
  written_behind bytes =
      let junk = drop (end + 1 + length bytes) file in
      ap (λ (l : List ℕ). l ++ bytes ++ junk) front ∙ append_assoc (text ++ gate ∷ []) bytes junk ∙ append_assoc text (gate ∷ []) (bytes ++ junk)

  -- all but the gate stands in each outcome of a write of the gate
  pub torn_gate : (c : List ℕ) → Torn end 1 file c → c ≡ text ++ get_or c end 0 ∷ tail
  torn_gate c torn =
      let size : length c ≡ end + 1 + length tail = omega (arith, long, torn.no_shorter, torn.no_longer) in
      let before : take end c ≡ text = sym (take-take end (length file) c (omega (arith, long))) ∙ torn.before ∙ take_at text (gate ∷ tail) end (sym gate_at) in
      let whole : take (length file) c ≡ c = take_all (length file) c (omega (arith, size, long)) in
      let after : drop (end + 1) c ≡ tail = ap (λ (l : List ℕ). drop (end + 1) l) (sym whole) ∙ torn.after ∙ back in
      let rest : drop end c ≡ get_or c end 0 ∷ tail = drop_more c end 0 (omega (arith, size)) ∙ ap (λ (l : List ℕ). get_or c end 0 ∷ l) after in
      sym (take-append-drop end c) ∙ ap (λ (l : List ℕ). l ++ drop end c) before ∙ ap (λ (l : List ℕ). text ++ l) rest

  pub written_gate : written file end (1 ∷ []) ≡ text ++ 1 ∷ tail
  written_gate =
      ap (λ (l : List ℕ). l ++ (1 ∷ []) ++ drop (end + 1) file) (take_at text (gate ∷ tail) end (sym gate_at))
      ∙ ap (λ (l : List ℕ). text ++ (1 ∷ []) ++ l) back
      ∙ append_assoc text (1 ∷ []) tail

-- any write behind the closed gate leaves what the file stands for
pub stage_stands : (bs : List ℕ) (payloads : List (List ℕ)) (end n : ℕ) → StandsFor bs payloads → end ≡ length (journal_text payloads) → (c : List ℕ) → Torn (end + 1) n bs c → StandsFor c payloads
stage_stands bs payloads end n s gate_at c torn =
    record {
      gate = s.gate;
      rest = drop (end + 1) c;
      split = torn_behind (journal_text payloads) s.gate s.rest end gate_at n c (subst (λ (f : List ℕ). Torn (end + 1) n f c) s.split torn);
      closed = s.closed;
      sizes = s.sizes;
      few = s.few;
    }

-- the file with a payload staged behind its closed gate
pub record IsStaged (payloads : List (List ℕ)) (payload mid : List ℕ) : Type 0 where
  pub gate : ℕ
  pub junk : List ℕ
  pub split : mid ≡ journal_text payloads ++ gate ∷ (staged_text payload ++ junk)
  pub closed : gate ≢ 1
  pub sizes : All IsPayload payloads
  pub size : IsPayload payload
  pub few : length payloads < 4096

pub is_staged : (bs : List ℕ) (payloads : List (List ℕ)) (payload : List ℕ) (end : ℕ) → StandsFor bs payloads → end ≡ length (journal_text payloads) → IsPayload payload → length payloads < 4096
    → IsStaged payloads payload (written bs (end + 1) (staged_text payload))
is_staged bs payloads payload end s gate_at size few =
    record {
      gate = s.gate;
      junk = drop (end + 1 + length (staged_text payload)) (journal_text payloads ++ s.gate ∷ s.rest);
      split = ap (λ (f : List ℕ). written f (end + 1) (staged_text payload)) s.split ∙ written_behind (journal_text payloads) s.gate s.rest end gate_at (staged_text payload);
      closed = s.closed;
      sizes = s.sizes;
      size = size;
      few = few;
    }

-- with its gate open it stands for one payload more
opened_stands : (payloads : List (List ℕ)) (payload junk c : List ℕ) → All IsPayload payloads → IsPayload payload → length payloads < 4096 → c ≡ journal_text payloads ++ 1 ∷ (staged_text payload ++ junk)
    → StandsFor c (payloads ++ payload ∷ [])
opened_stands payloads payload junk c sizes size few is =
    record {
      gate = 0;
      rest = junk;
      split = is ∙ opened_entry payloads payload junk;
      closed = λ no. absurd (omega (arith, no));
      sizes = All-push IsPayload payloads payload sizes size;
      few = omega (arith, few, length-append payloads (payload ∷ []));
    }

-- a torn write of the gate leaves the list before or with the payload
pub gate_stands : (mid : List ℕ) (payloads : List (List ℕ)) (payload : List ℕ) (end : ℕ) → IsStaged payloads payload mid → end ≡ length (journal_text payloads) → (c : List ℕ) → Torn end 1 mid c → IsBeforeOrAfter payloads payload c
gate_stands mid payloads payload end s gate_at c torn =
    let g = get_or c end 0 in
    let tail = staged_text payload ++ s.junk in
    let whole : c ≡ journal_text payloads ++ g ∷ tail = torn_gate (journal_text payloads) s.gate tail end gate_at c (subst (λ (f : List ℕ). Torn end 1 f c) s.split torn) in
    elim (cases_eq g 1) [
      | inl is_open ↦ inr (opened_stands payloads payload s.junk c s.sizes s.size s.few (whole ∙ ap (λ (k : ℕ). journal_text payloads ++ k ∷ tail) is_open))
      | inr shut ↦ inl (record { gate = g; rest = tail; split = whole; closed = shut; sizes = s.sizes; few = omega (arith, s.few) })
    ]

-- and the whole write leaves it with the payload
pub opened_is : (mid : List ℕ) (payloads : List (List ℕ)) (payload : List ℕ) (end : ℕ) (s : IsStaged payloads payload mid) → end ≡ length (journal_text payloads) → written mid end (1 ∷ []) ≡ journal_text payloads ++ 1 ∷ (staged_text payload ++ s.junk)
opened_is mid payloads payload end s gate_at =
    ap (λ (f : List ℕ). written f end (1 ∷ [])) s.split ∙ written_gate (journal_text payloads) s.gate (staged_text payload ++ s.junk) end gate_at

pub with_payload : (mid : List ℕ) (payloads : List (List ℕ)) (payload : List ℕ) (end : ℕ) → IsStaged payloads payload mid → end ≡ length (journal_text payloads) → StandsFor (written mid end (1 ∷ [])) (payloads ++ payload ∷ [])
with_payload mid payloads payload end s gate_at = opened_stands payloads payload s.junk (written mid end (1 ∷ [])) s.sizes s.size s.few (opened_is mid payloads payload end s gate_at)

pub long_text : (payloads : List (List ℕ)) (payload : List ℕ) → length (journal_text (payloads ++ payload ∷ [])) ≡ length (journal_text payloads) + 5 + length payload
long_text payloads payload =
    ap length (text-push payloads payload) ∙ omega (arith, length-append (journal_text payloads) (payload_text payload), length-append (big_bytes 4 (length payload)) payload)
