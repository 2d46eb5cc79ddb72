-- Files that are made one after the other.
use Rattle.std.proofs.Common.{◌≡◌, ℕ, List, [], ◌∷◌, ◌++◌, Option, Some, None, Result, Ok, Err, IfErr, ◌<◌, ◌+◌, length, drop, get_or, refl, sym, ap, subst, ◌∙◌, append_assoc, inr}
use Rattle.std.proofs.lemmas.List.{append-nil, at_drop_more}
use Rattle.base_streams.specs.Counting.{one_more}
use Rattle.base_wire.specs.KeyNumbers.{key_number}
use Rattle.base_wire.specs.declared.key_number.KeyNumber.{KeyNumber}
use Rattle.base_wire.specs.declared.key_number.KeyNumber.TheVariants.{Zero, One, Two, Three}
use Rattle.lmots.specs.declared.keys.PrivateSeed.{PrivateSeed}
use Rattle.replica_files.specs.declared.files.KeyFile.{KeyFile}
use Rattle.replica_files.specs.declared.files.KeyFile.TheVariants as file
use Rattle.replica_files.specs.declared.fault.KeyFault.{KeyFault}
use Rattle.replica_files.specs.declared.fault.KeyFault.TheVariants.{Memory, File, Output}
use Rattle.replica_files.specs.KeyFiles.{FolderFile, Made, file_name}
use Rattle.replica_files.specs.KeySets.{IsFaultOfSet, IsStop, Stops, StopsAt, StopsIn, files_of_key, files_of_keys, journal, journals_of, number_at}
use Rattle.replica_files.specs.declared.making.Journals.{Journals}
use Rattle.replica_files.specs.declared.making.Journals.TheVariants as journals

-- nothing was made yet
pub made_none : (before : Option (List FolderFile)) → Made before before []
made_none None = tt
made_none (Some held) = ap (λ (fs : List FolderFile). Some fs) (sym (append-nil held))

-- files more
pub made_more : (before mid after : Option (List FolderFile)) (files more : List FolderFile)
    → Made before mid files → Made mid after more → Made before after (files ++ more)
made_more None mid after files more a b = tt
made_more (Some held) mid after files more a b =
    let told : after ≡ Some ((held ++ files) ++ more) = subst (λ (m : Option (List FolderFile)). Made m after more) a b in
    told ∙ ap (λ (fs : List FolderFile). Some fs) (append_assoc held files more)

-- a file alone that was not made
stops_here : (held : List FolderFile) (after : Option (List FolderFile)) (one : FolderFile) → after ≡ Some held → StopsIn held after (one ∷ [])
stops_here held after one same = record {
  made = [];
  next = one;
  rest = [];
  split = refl;
  left = same ∙ ap (λ (fs : List FolderFile). Some fs) (sym (append-nil held));
}

pub stop_at_one : (file : KeyFile) (before after : Option (List FolderFile)) (one : FolderFile) → one.name ≡ file_name file → after ≡ before → StopsAt file before after (one ∷ [])
unfolding stops_here
stop_at_one file None after one named same = tt
stop_at_one file (Some held) after one named same = (stops_here held after one same, named)

pub stop_for_memory : (before after : Option (List FolderFile)) (one : FolderFile) → after ≡ before → Stops before after (one ∷ [])
stop_for_memory None after one same = tt
stop_for_memory (Some held) after one same = stops_here held after one same

-- a stop in the first of two parts is one in both
in_first : (held : List FolderFile) (after : Option (List FolderFile)) (files more : List FolderFile) → StopsIn held after files → StopsIn held after (files ++ more)
in_first held after files more s = record {
  made = s.made;
  next = s.next;
  rest = s.rest ++ more;
  split = ap (λ (fs : List FolderFile). fs ++ more) s.split ∙ append_assoc s.made (s.next ∷ s.rest) more;
  left = s.left;
}

-- .. and so is one in the second, where the first was made
in_second : (held : List FolderFile) (after : Option (List FolderFile)) (files more : List FolderFile) → StopsIn (held ++ files) after more → StopsIn held after (files ++ more)
in_second held after files more s = record {
  made = files ++ s.made;
  next = s.next;
  rest = s.rest;
  split = ap (λ (fs : List FolderFile). files ++ fs) s.split ∙ sym (append_assoc files s.made (s.next ∷ s.rest));
  left = s.left ∙ ap (λ (fs : List FolderFile). Some fs) (append_assoc held files s.made);
}

pub stop_first : (fault : KeyFault) (before after : Option (List FolderFile)) (failures failures' : ℕ) (files more : List FolderFile)
    → IsStop fault before after failures failures' files → IsStop fault before after failures failures' (files ++ more)
unfolding in_first
stop_first Memory None after failures failures' files more stop = (tt, stop.1)
stop_first Memory (Some held) after failures failures' files more stop = (in_first held after files more stop.0, stop.1)
stop_first (File file) None after failures failures' files more stop = (tt, stop.1)
stop_first (File file) (Some held) after failures failures' files more stop = ((in_first held after files more stop.0.0, stop.0.1), stop.1)
stop_first Output before after failures failures' files more stop = stop

pub stop_second : (fault : KeyFault) (before mid after : Option (List FolderFile)) (failures failures1 failures' : ℕ) (files more : List FolderFile)
    → Made before mid files → failures1 ≡ failures → IsStop fault mid after failures1 failures' more → IsStop fault before after failures failures' (files ++ more)
unfolding in_second
stop_second Memory None mid after failures failures1 failures' files more made kept stop = (tt, stop.1 ∙ ap (λ (n : ℕ). one_more n) kept)
stop_second Memory (Some held) mid after failures failures1 failures' files more made kept stop =
    (in_second held after files more (subst (λ (m : Option (List FolderFile)). Stops m after more) made stop.0), stop.1 ∙ ap (λ (n : ℕ). one_more n) kept)
stop_second (File file) None mid after failures failures1 failures' files more made kept stop = (tt, stop.1 ∙ ap (λ (n : ℕ). one_more n) kept)
stop_second (File file) (Some held) mid after failures failures1 failures' files more made kept stop =
    let s = subst (λ (m : Option (List FolderFile)). StopsAt file m after more) made stop.0 in
    ((in_second held after files more s.0, s.1), stop.1 ∙ ap (λ (n : ℕ). one_more n) kept)
stop_second Output before mid after failures failures1 failures' files more made kept stop = stop

pub if_stop_second : (r : Result (Unit {0}) KeyFault) (before mid after : Option (List FolderFile)) (failures failures1 failures' : ℕ) (files more : List FolderFile)
    → Made before mid files → failures1 ≡ failures → IfErr r (λ fault. IsStop fault mid after failures1 failures' more)
    → IfErr r (λ fault. IsStop fault before after failures failures' (files ++ more))
if_stop_second (Ok _) before mid after failures failures1 failures' files more made kept stop = tt
if_stop_second (Err fault) before mid after failures failures1 failures' files more made kept stop =
    stop_second fault before mid after failures failures1 failures' files more made kept stop

-- the first journal
pub stop_journals : (journals : Journals) (fault : KeyFault) (before after : Option (List FolderFile)) (failures failures' : ℕ)
    → IsStop fault before after failures failures' (journal file.Indices) → IsStop fault before after failures failures' (journals_of journals)
stop_journals journals.Indices fault before after failures failures' stop = stop
stop_journals journals.IndicesAndLog fault before after failures failures' stop = stop_first fault before after failures failures' _ _ stop

pub set_stops : (fault : KeyFault) (before after : Option (List FolderFile)) (failures failures' : ℕ) (files : List FolderFile)
    → IsStop fault before after failures failures' files → IsFaultOfSet fault before after failures failures' files
set_stops Memory before after failures failures' files stop = inr stop
set_stops (File file) before after failures failures' files stop = stop
set_stops Output before after failures failures' files stop = stop

-- the key of a number at its place
pub at_its_place : (number : KeyNumber) (at : ℕ) → key_number number ≡ at → number ≡ number_at at
at_its_place Zero at is = ap number_at is
at_its_place One at is = ap number_at is
at_its_place Two at is = ap number_at is
at_its_place Three at is = ap number_at is

-- the files so far, and behind them those of the other keys: one key more
pub one_more_key : (done : List FolderFile) (secrets : List PrivateSeed) (at : ℕ) (d : PrivateSeed) (number : KeyNumber) → at < length secrets → key_number number ≡ at
    → done ++ files_of_keys at (drop at secrets) ≡ files_of_keys 0 secrets
    → (done ++ files_of_key number (get_or secrets at d)) ++ files_of_keys (at + 1) (drop (at + 1) secrets) ≡ files_of_keys 0 secrets
one_more_key done secrets at d number within is rest =
    let one : PrivateSeed = get_or secrets at d in
    let tail : List FolderFile = files_of_keys (at + 1) (drop (at + 1) secrets) in
    append_assoc done (files_of_key number one) tail
    ∙ ap (λ (n : KeyNumber). done ++ (files_of_key n one ++ tail)) (at_its_place number at is)
    ∙ ap (λ (fs : List FolderFile). done ++ fs) (sym (at_drop_more (files_of_keys at) secrets at d within))
    ∙ rest

-- a stop at this key is one in all of them
pub stops_at_key : (fault : KeyFault) (before mid after : Option (List FolderFile)) (failures failures1 failures' : ℕ) (done : List FolderFile) (secrets : List PrivateSeed) (at : ℕ) (d : PrivateSeed) (number : KeyNumber)
    → at < length secrets → key_number number ≡ at → done ++ files_of_keys at (drop at secrets) ≡ files_of_keys 0 secrets
    → Made before mid done → failures1 ≡ failures → IsStop fault mid after failures1 failures' (files_of_key number (get_or secrets at d))
    → IsStop fault before after failures failures' (files_of_keys 0 secrets)
stops_at_key fault before mid after failures failures1 failures' done secrets at d number within is rest made kept stop =
    subst (λ (fs : List FolderFile). IsStop fault before after failures failures' fs) (one_more_key done secrets at d number within is rest)
    (stop_first fault before after failures failures' _ (files_of_keys (at + 1) (drop (at + 1) secrets)) (stop_second fault before mid after failures failures1 failures' done _ made kept stop))
