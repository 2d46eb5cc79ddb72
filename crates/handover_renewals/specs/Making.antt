-- What is made of endorsements.
use Rattle.std.specs.Prelude.{◌≡◌, ◌<◌, ℕ, List, Ok}
use Rattle.std.specs.List.{All}
use Rattle.base_wire.specs.Pieces.{AreBytes}
use Rattle.blocks.specs.Committees.{IsCommittee, n_of}
use Rattle.handover_renewals.specs.RenewalReading.{renewal_in}
use Rattle.handover_renewals.specs.Renewals.{renewal_text}
use Rattle.handover_renewals.specs.Renewing.{Renews}
use Rattle.handover_renewals.specs.Slots.{AreSlotsOf, slot_keys}
use Rattle.handover_renewals.specs.Endorsed.{endorsement_of}
use Rattle.handover_renewals.specs.Composing.{composed_file, next_slot_keys, renewal_to}
use Rattle.handover_renewals.specs.Refusals.{ArePassed}
use Rattle.handover_renewals.specs.declared.making.Made.{Made}

-- the file of a committee, the bytes of a renewal by which it renews the old one, and its slots beside the old one's
pub record IsRenewalMade (old : List ℕ) (es : List (List ℕ)) (made : Made) : Type 0 where
  pub file : made.committee.items ≡ composed_file old es
  pub is_committee : IsCommittee made.committee.items
  pub text : made.renewal.items ≡ renewal_text (renewal_to old made.committee.items es)
  pub read : renewal_in made.renewal.items ≡ Ok (renewal_to old made.committee.items es)
  pub renews : Renews old made.committee.items (renewal_to old made.committee.items es)
  pub slots : AreSlotsOf old made.committee.items made.slots

-- a file that is composed of endorsements that pass their tests
pub record IsComposed (old : List ℕ) (es : List (List ℕ)) (file : List ℕ) : Type 0 where
  pub was : IsCommittee old
  pub passed : ArePassed old es
  pub bytes : All AreBytes es
  pub file_is : file ≡ composed_file old es

-- each slot of a file has the keys that its replica endorsed, else those that it had
abbrev pub HasSlotsOf : List ℕ → List (List ℕ) → List ℕ → Type 0
HasSlotsOf old es file = (s : ℕ) → s < n_of old → slot_keys file s ≡ next_slot_keys old s (endorsement_of es s)
