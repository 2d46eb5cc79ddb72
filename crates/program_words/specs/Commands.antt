-- What words ask for: its numbers and counts, and when it is how the program is called.
use Rattle.std.specs.Borrow.{Bor}
use Rattle.std.specs.Prelude.{◌≡◌, ◌≢◌, ◌≤◌, ◌↔◌, ◌+◌, ◌*◌, ℕ, List, [], Option, Some, None, length, ⊤}
use Rattle.std.specs.List.{All}
use Rattle.program_parts.specs.Words.{SpellsNumber}
use Rattle.program_words.specs.declared.command.KeyCount.{KeyCount}
use Rattle.program_words.specs.declared.command.SeedWord.{SeedWord}
use Rattle.program_words.specs.declared.command.SeedWord.TheVariants.{Random}
use Rattle.program_words.specs.declared.command.WeightedReplica.{WeightedReplica}
use Rattle.program_words.specs.declared.command.Command.{Command}
use Rattle.program_words.specs.declared.command.Command.TheVariants.{Usage, NextKeys, Committee, Weighted, Renewal}

-- a weight, and one to four keys
pub record IsWeighted (r : WeightedReplica) : Type 0 where
  pub weight : 1 ≤ r.weight
  pub some : 1 ≤ length r.paths.items
  pub few : length r.paths.items ≤ 4

-- F of 1 to 10 has 3F + 1 keys, 4 to 31 replicas have weights, and a renewal is made of 1 to 31 endorsements. Other numbers keep their bounds by their types
abbrev pub HasItsCounts : Command → Type 0
HasItsCounts (Committee f out keys) = (1 ≤ f) × (f ≤ 10) × (length keys.items ≡ 3 * f + 1)
HasItsCounts (Weighted out replicas) = (4 ≤ length replicas.items) × (length replicas.items ≤ 31) × All IsWeighted replicas.items
HasItsCounts (Renewal committee file renewal endorsements) = (1 ≤ length endorsements.items) × (length endorsements.items ≤ 31)
HasItsCounts command = ⊤

-- a number of keys, if a word says one
abbrev pub IsCountAsked : Option (Bor (List ℕ)) → Option KeyCount → Type 0
IsCountAsked None count = count ≡ None
IsCountAsked (Some word) None = ⊥
IsCountAsked (Some word) (Some keys) = SpellsNumber word.now keys.count

-- a replica's next keys in a folder, behind the committee of a file: their seeds are drawn, and no number of a key is said
abbrev pub AreNextKeysAsked : SeedWord → (folder committee : Bor (List ℕ)) → (replica : List ℕ) → (key keys : Option (Bor (List ℕ))) → Command → Type 0
AreNextKeysAsked Random folder committee replica None keys (NextKeys folder' committee' number count) =
    (folder' ≡ folder) × (committee' ≡ committee) × (committee.now ≢ []) × SpellsNumber replica number × IsCountAsked keys count
AreNextKeysAsked seed folder committee replica key keys command = ⊥

-- just no words ask how the program is called
pub record IsAskedBy {W : Type 0} (words : List W) (command : Command) : Type 0 where
  pub usage : command ≡ Usage ↔ words ≡ []
  pub counts : HasItsCounts command
