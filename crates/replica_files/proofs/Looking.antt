-- What a look for the files of a key finds.
use Rattle.std.proofs.Common.{◌≡◌, ◌⊎◌, ℕ, List, Option, Some, None, IfSome, Result, Err, refl, sym, ap, subst, ◌∙◌, inl, inr, arith}
use Rattle.base_streams.specs.Counting.{one_more}
use Rattle.replica_files.specs.declared.files.KeyFile.{KeyFile}
use Rattle.replica_files.specs.declared.files.KeyFile.TheVariants.{Seed, PublicKey, Indices, Log}
use Rattle.base_wire.specs.declared.key_number.KeyNumber.{KeyNumber}
use Rattle.base_wire.specs.declared.key_number.KeyNumber.TheVariants.{Zero}
use Rattle.replica_files.specs.declared.fault.KeyFault.{KeyFault}
use Rattle.replica_files.specs.declared.fault.KeyFault.TheVariants.{Memory, File, Output}
use Rattle.replica_files.specs.KeyFiles.{FolderFile, file_name, IsFaultOfLook, IsFaultOfLooks, IsFirstThere, IsNoneBefore, IsThere, OfFirstThere, made_with}

-- there is one first file of a key
one_first : (a b : KeyFile) (held : List FolderFile) → made_with a ≡ made_with b → IsFirstThere a held → IsFirstThere b held → a ≡ b
one_first (Seed n) (Seed m) held same is_a is_b = ap (λ (k : KeyNumber). Seed k) same
one_first (Seed n) (PublicKey m) held same is_a is_b = absurd (is_b.first (Seed n) same (omega arith) is_a.there)
one_first (Seed n) Indices held same is_a is_b = absurd (is_b.first (Seed n) same (omega arith) is_a.there)
one_first (Seed n) Log held same is_a is_b = absurd (is_b.first (Seed n) same (omega arith) is_a.there)
one_first (PublicKey n) (Seed m) held same is_a is_b = absurd (is_a.first (Seed m) (sym same) (omega arith) is_b.there)
one_first (PublicKey n) (PublicKey m) held same is_a is_b = ap (λ (k : KeyNumber). PublicKey k) same
one_first (PublicKey n) Indices held same is_a is_b = absurd (is_b.first (PublicKey n) same (omega arith) is_a.there)
one_first (PublicKey n) Log held same is_a is_b = absurd (is_b.first (PublicKey n) same (omega arith) is_a.there)
one_first Indices (Seed m) held same is_a is_b = absurd (is_a.first (Seed m) (sym same) (omega arith) is_b.there)
one_first Indices (PublicKey m) held same is_a is_b = absurd (is_a.first (PublicKey m) (sym same) (omega arith) is_b.there)
one_first Indices Indices held same is_a is_b = refl
one_first Indices Log held same is_a is_b = absurd (is_b.first Indices same (omega arith) is_a.there)
one_first Log (Seed m) held same is_a is_b = absurd (is_a.first (Seed m) (sym same) (omega arith) is_b.there)
one_first Log (PublicKey m) held same is_a is_b = absurd (is_a.first (PublicKey m) (sym same) (omega arith) is_b.there)
one_first Log Indices held same is_a is_b = absurd (is_a.first Indices (sym same) (omega arith) is_b.there)
one_first Log Log held same is_a is_b = refl

-- where none is there, the rest is as it may be
pub none_there : (number : KeyNumber) (before : Option (List FolderFile)) (Holds : KeyFile → Type 0) → OfFirstThere number before (λ _. ⊥) → OfFirstThere number before Holds
none_there number None Holds none = tt
none_there number (Some held) Holds none = λ file of_key is. absurd (none file of_key is)

-- looks that end a call name the first, or one failed
pub first_named : (number : KeyNumber) (before : Option (List FolderFile)) (result : Result (Unit {0}) KeyFault) (fault : KeyFault) (failures failures' : ℕ)
    → result ≡ Err fault → IsFaultOfLooks number fault before failures failures'
    → OfFirstThere number before (λ file. (result ≡ Err (File file)) ⊎ (failures' ≡ one_more failures))
first_named number None result fault failures failures' is found = tt
first_named number (Some held) result Memory failures failures' is found = λ file of_key first. inr found
first_named number (Some held) result (File named) failures failures' is (of_named, inl found) =
    λ file of_key first. inl (is ∙ ap (λ (f : KeyFile). Err (File f)) (one_first named file held (of_named ∙ sym of_key) found.0 first))
first_named number (Some held) result (File named) failures failures' is (of_named, inr found) = λ file of_key first. inr found.1
first_named number (Some held) result Output failures failures' is found = absurd found

-- a file is not there, where the folder tells its files
abbrev IsAbsent : Option (List FolderFile) → KeyFile → Type 0
IsAbsent before file = IfSome before (λ held. IsThere (file_name file) held → ⊥)

none_before_log : (held : List FolderFile) → (IsThere (file_name (Seed Zero)) held → ⊥) → (IsThere (file_name (PublicKey Zero)) held → ⊥) → (IsThere (file_name Indices) held → ⊥) → IsNoneBefore Log held
none_before_log held seed public_key indices (Seed n) zero before there = seed (subst (λ (m : KeyNumber). IsThere (file_name (Seed m)) held) zero there)
none_before_log held seed public_key indices (PublicKey n) zero before there = public_key (subst (λ (m : KeyNumber). IsThere (file_name (PublicKey m)) held) zero there)
none_before_log held seed public_key indices Indices zero before there = indices there
none_before_log held seed public_key indices Log zero before there = absurd (omega (arith, before))

-- where the other files are absent, a look for the log names the first that is there
log_first : (before : Option (List FolderFile)) → IsAbsent before (Seed Zero) → IsAbsent before (PublicKey Zero) → IsAbsent before Indices → IfSome before (IsNoneBefore Log)
log_first None seed public_key indices = tt
log_first (Some held) seed public_key indices = none_before_log held seed public_key indices

log_there : (before : Option (List FolderFile)) → IfSome before (IsNoneBefore Log) → IfSome before (IsThere (file_name Log)) → IfSome before (IsFirstThere Log)
log_there None first there = tt
log_there (Some held) first there = record { there = there; first = first }

fault_of_log : (before : Option (List FolderFile)) (fault : KeyFault) (failures failures' : ℕ)
    → IsAbsent before (Seed Zero) → IsAbsent before (PublicKey Zero) → IsAbsent before Indices
    → IsFaultOfLook Log fault before failures failures' → IsFaultOfLooks Zero fault before failures failures'
fault_of_log before Memory failures failures' seed public_key indices fault = fault
fault_of_log before (File named) failures failures' seed public_key indices (is, inl (there, same)) =
    subst (λ (f : KeyFile). IsFaultOfLooks Zero (File f) before failures failures') (sym is) (refl, inl (log_there before (log_first before seed public_key indices) there, same))
fault_of_log before (File named) failures failures' seed public_key indices (is, inr more) =
    subst (λ (f : KeyFile). IsFaultOfLooks Zero (File f) before failures failures') (sym is) (refl, inr (log_first before seed public_key indices, more))
fault_of_log before Output failures failures' seed public_key indices fault = absurd fault

-- so it does behind the looks for the others, which leave the folder as it was
pub log_looked : (number : KeyNumber) (b0 b1 b2 b3 : Option (List FolderFile)) (fault : KeyFault) (n0 n1 n2 n3 n4 : ℕ)
    → number ≡ Zero → b1 ≡ b0 → b2 ≡ b1 → b3 ≡ b2 → n1 ≡ n0 → n2 ≡ n1 → n3 ≡ n2
    → IsAbsent b0 (Seed number) → IsAbsent b1 (PublicKey number) → IsAbsent b2 Indices
    → IsFaultOfLook Log fault b3 n3 n4 → IsFaultOfLooks number fault b0 n0 n4
log_looked number b0 b1 b2 b3 fault n0 n1 n2 n3 n4 zero s1 s2 s3 k1 k2 k3 seed public_key indices err =
    subst (λ (n : KeyNumber). IsFaultOfLooks n fault b0 n0 n4) (sym zero) (fault_of_log b0 fault n0 n4
    (subst (λ (n : KeyNumber). IsAbsent b0 (Seed n)) zero seed)
    (subst (λ (n : KeyNumber). IsAbsent b0 (PublicKey n)) zero (subst (λ (b : Option (List FolderFile)). IsAbsent b (PublicKey number)) s1 public_key))
    (subst (λ (b : Option (List FolderFile)). IsAbsent b Indices) (s2 ∙ s1) indices)
    (subst (λ (k : ℕ). IsFaultOfLook Log fault b0 k n4) (k3 ∙ k2 ∙ k1) (subst (λ (b : Option (List FolderFile)). IsFaultOfLook Log fault b n3 n4) (s3 ∙ s2 ∙ s1) err)))
