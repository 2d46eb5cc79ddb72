-- The names of the folders of chains and key sets.
use Rattle.std.specs.Prelude.{ℕ, List, ◌++◌, codes}
use Rattle.hex.specs.Hex.{encode_lower}

-- in DIR, of this word and the digits of a chain's id
abbrev pub folder_of : List ℕ → List ℕ → List ℕ → List ℕ
folder_of folder word chain = folder ++ (codes "/" ++ (word ++ encode_lower chain))

abbrev pub chain_folder : List ℕ → List ℕ → List ℕ
chain_folder folder chain = folder_of folder (codes "chain-") chain

abbrev pub key_folder : List ℕ → List ℕ → List ℕ
key_folder folder chain = folder_of folder (codes "next-") chain
