use Rattle.std.proofs.Common.{◌≡◌, ◌∙◌, ◌++◌, rules, ◌∷◌, [], ℕ, List, Option, subst, sym, take}
use Rattle.stable_log.specs.Image.{empty_journal}
use Rattle.replica_files.specs.declared.folder.Readers.TheVariants.{Owner, All}
use Rattle.replica_files.specs.declared.files.KeyFile.TheVariants.{Seed, PublicKey, Indices, Log}
use Rattle.base_wire.specs.declared.key_number.KeyNumber.{KeyNumber}
use Rattle.base_wire.specs.declared.key_number.KeyNumber.TheVariants.{Zero}
use Rattle.replica_files.specs.KeyFiles.{FolderFile, Made, file_name, files_with}
use Rattle.replica_files.proofs.KeyMaking.{made_more, leaves_some}
use Rattle.replica_files.proofs.keygen.make_files.Goals as goal

-- the two files of the key, once the second was made
keys_made : (number : KeyNumber) (before mid after : Option (List FolderFile)) (id seed bytes public_key : List ℕ) → bytes ≡ id ++ seed
    → Made before mid (record { name = file_name (Seed number); bytes = bytes; readers = Owner } ∷ [])
    → Made mid after (record { name = file_name (PublicKey number); bytes = public_key; readers = All } ∷ [])
    → Made before after (take 2 (files_with number id seed public_key))
keys_made number before mid after id seed bytes public_key same first second =
    made_more before mid after _ _ (subst (λ (b : List ℕ). Made before mid (record { name = file_name (Seed number); bytes = b; readers = Owner } ∷ [])) same first) second

-- and behind those of key 0 the journal of its indices
index_made : (number : KeyNumber) (before mid after : Option (List FolderFile)) (id seed public_key : List ℕ) → number ≡ Zero
    → Made before mid (take 2 (files_with number id seed public_key))
    → Made mid after (record { name = file_name Indices; bytes = empty_journal; readers = All } ∷ [])
    → Made before after (take 3 (files_with number id seed public_key))
index_made number before mid after id seed public_key zero first second =
    subst (λ (n : KeyNumber). Made before after (take 3 (files_with n id seed public_key))) (sym zero)
    (made_more before mid after _ _ (subst (λ (n : KeyNumber). Made before mid (take 2 (files_with n id seed public_key))) zero first) second)

pub returns-in_err-make_store-clause-err : goal.returns-in_err-make_store-clause-err
returns-in_err-make_store-clause-err g c =
    let number = c.args.number in
    let secret = c.args.secret.now in
    let zero : number ≡ Zero = search rules in
    let keys = keys_made number _ _ _ secret.key_id secret.seed _ c.args.public_key.now c.to_bytes-secret_key.ensures c.in_ok-make.ensures.ok c.in_ok-make-2.ensures.ok in
    let left = leaves_some number _ _ _ _ _ _ Indices c.in_err-make_store.field-0.0 (files_with number secret.key_id secret.seed c.args.public_key.now)
    (sym zero) keys (c.in_ok-make-2.ensures.kept ∙ c.in_ok-make.ensures.kept) c.in_err-make_store.ensures.err in
    search rules

pub returns-in_err-make_store-2-clause-err : goal.returns-in_err-make_store-2-clause-err
returns-in_err-make_store-2-clause-err g c =
    let number = c.args.number in
    let secret = c.args.secret.now in
    let zero : number ≡ Zero = search rules in
    let keys = keys_made number _ _ _ secret.key_id secret.seed _ c.args.public_key.now c.to_bytes-secret_key.ensures c.in_ok-make.ensures.ok c.in_ok-make-2.ensures.ok in
    let index = index_made number _ _ _ secret.key_id secret.seed c.args.public_key.now zero keys c.in_ok-make_store.ensures.ok in
    let left = leaves_some number _ _ _ _ _ _ Log c.in_err-make_store-2.field-0.0 (files_with number secret.key_id secret.seed c.args.public_key.now)
    (sym zero) index (c.in_ok-make_store.ensures.kept ∙ c.in_ok-make-2.ensures.kept ∙ c.in_ok-make.ensures.kept) c.in_err-make_store-2.ensures.err in
    search rules
