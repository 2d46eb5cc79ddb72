-- What contracts see of a word store, and what it keeps.
use Rattle.std.specs.Prelude.{ℕ, ◌≡◌, ◌⊎◌, List, length, Bool, true, false, Option, Some, None, IfSome, option_map}
use Rattle.handover_folder.specs.Words.{Word, Endorsed, Over, Said, Has, IsSaid, IsWord, Leaves, LeavesWord, MayFollow, words_of}
use Rattle.handover_folder.specs.declared.word.GoneOver.{GoneOver}
use Rattle.handover_folder.specs.declared.said.SaidWords.{SaidWords}

-- its disk, what the signer has said, and whether it is stopped
pub record WordState (D : Type 0) : Type 0 where
  pub disk : D
  pub said : Said
  pub stopped : Bool

-- what the words in memory are
abbrev pub said_in : SaidWords → Said
said_in words = record { endorsed = option_map (λ v. v.items) words.endorsed; gone = words.gone }

-- this word is there, or may be said next
abbrev pub IsFreeFor : Said → Word → Type 0
IsFreeFor said word = Has said word ⊎ (MayFollow said word × IsWord word)

-- the word of this kind that is there is another one
abbrev pub HasOther : Said → Word → Type 0
HasOther said (Endorsed bytes) = (there : List ℕ) × (said.endorsed ≡ Some there) × (there ≡ bytes → ⊥)
HasOther said (Over word) = (there : GoneOver) × (said.gone ≡ Some there) × (there ≡ word → ⊥)

-- the store runs, and takes this word or has it
abbrev pub MaySay : {D : Type 0} → WordState D → Word → Type 0
MaySay store word = (store.stopped ≡ false) × IsFreeFor store.said word

-- the store runs and takes this word, which is written
abbrev pub MustWrite : {D : Type 0} → WordState D → Word → Type 0
MustWrite store word = (store.stopped ≡ false) × MayFollow store.said word × IsWord word

-- what a store keeps: its journal has just what was said, and while it runs so has whatever a crash leaves; an endorsement
-- is in whatever a crash leaves at any time; only one that has not gone over is stopped
pub record IsStore (told : Option (List ℕ)) (images : List ℕ → Type 0) (payloads : List (List ℕ)) (said : Said) (stopped : Bool) : Type 0 where
  pub whole : IsSaid said
  pub counted : length payloads ≡ length (words_of said)
  pub listed : IfSome told (λ _. payloads ≡ words_of said)
  pub durable : stopped ≡ false → IfSome told (λ _. Leaves images said)
  pub endorsed : IfSome said.endorsed (λ bytes. IfSome told (λ _. LeavesWord images (Endorsed bytes)))
  pub unsaid : stopped ≡ true → said.gone ≡ None
