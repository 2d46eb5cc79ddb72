-- Files that are made one after the other.
use Rattle.std.proofs.Common.{◌≡◌, ℕ, List, [], ◌++◌, Option, Some, None, sym, ap, subst, ◌∙◌, append_assoc, take}
use Rattle.base_streams.specs.Counting.{one_more}
use Rattle.replica_files.specs.declared.files.KeyFile.{KeyFile}
use Rattle.base_wire.specs.declared.key_number.KeyNumber.{KeyNumber}
use Rattle.replica_files.specs.declared.fault.KeyFault.{KeyFault}
use Rattle.replica_files.specs.declared.fault.KeyFault.TheVariants.{Memory, File, Output}
use Rattle.std.proofs.lemmas.List.{append-nil}
use Rattle.replica_files.specs.KeyFiles.{FolderFile, Made, MadePart, IsFaultOf, LeavesSome, made_with, place_of}

-- nothing was made yet
pub made_none : (before : Option (List FolderFile)) → Made before before []
made_none None = tt
made_none (Some held) = ap (λ (fs : List FolderFile). Some fs) (sym (append-nil held))

-- one file more
pub made_more : (before mid after : Option (List FolderFile)) (files more : List FolderFile)
    → Made before mid files → Made mid after more → Made before after (files ++ more)
made_more None mid after files more a b = tt
made_more (Some held) mid after files more a b =
    let told : after ≡ Some ((held ++ files) ++ more) = subst (λ (m : Option (List FolderFile)). Made m after more) a b in
    told ∙ ap (λ (fs : List FolderFile). Some fs) (append_assoc held files more)

-- where the next one fails, those before it are a first part
pub made_part : (before mid after : Option (List FolderFile)) (n : ℕ) (files : List FolderFile)
    → Made before mid (take n files) → after ≡ mid → MadePart before after files
made_part None mid after n files a same = tt
made_part (Some held) mid after n files a same = (n, same ∙ a)

-- a fault of the next file leaves those before it
pub leaves_some : (number : KeyNumber) (before mid after : Option (List FolderFile)) (failures failures' failures'' : ℕ) (file : KeyFile) (fault : KeyFault) (files : List FolderFile)
    → made_with file ≡ number → Made before mid (take (place_of file) files) → failures' ≡ failures → IsFaultOf file fault mid after failures' failures''
    → LeavesSome number fault before after failures failures'' files
leaves_some number before mid after failures failures' failures'' file Memory files of_key made kept fault =
    (made_part before mid after (place_of file) files made fault.0, fault.1 ∙ ap (λ (n : ℕ). one_more n) kept)
leaves_some number before mid after failures failures' failures'' file (File named) files of_key made kept fault = (
  ap (λ (f : KeyFile). made_with f) fault.0 ∙ of_key,
  subst (λ (f : KeyFile). Made before after (take (place_of f) files)) (sym fault.0)
      (subst (λ (held : Option (List FolderFile)). Made before held (take (place_of file) files)) (sym fault.1) made),
  fault.2 ∙ ap (λ (n : ℕ). one_more n) kept,
)
leaves_some number before mid after failures failures' failures'' file Output files of_key made kept fault = fault
