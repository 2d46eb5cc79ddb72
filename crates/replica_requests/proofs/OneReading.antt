-- The bytes of a block ask for one thing.
use Rattle.std.proofs.Common.{◌≡◌, ◌∙◌, ℕ, List, sym}
use Rattle.replica_requests.specs.Requests.{IsOfBlock}
use Rattle.replica_requests.specs.declared.request.Request.{Request}
use Rattle.replica_requests.specs.declared.request.Request.TheVariants.{Block, Timeout, RefusedHeader, RefusedCertificate}

pub one_block : (bytes : List ℕ) (r s : Request) → IsOfBlock bytes r → IsOfBlock bytes s → r ≡ s
one_block bytes (Block h c) (Block h' c') (a, b) (a', b') = cc (sym a ∙ a', sym b ∙ b')
one_block bytes (Block h c) (RefusedHeader e) (a, b) a' = absurd (cc (sym a ∙ a'))
one_block bytes (Block h c) (RefusedCertificate e) (a, b) (h', a', b') = absurd (cc (sym b ∙ b'))
one_block bytes (RefusedHeader e) (Block h c) a (a', b') = absurd (cc (sym a ∙ a'))
one_block bytes (RefusedHeader e) (RefusedHeader e') a a' = cc (sym a ∙ a')
one_block bytes (RefusedHeader e) (RefusedCertificate e') a (h', a', b') = absurd (cc (sym a ∙ a'))
one_block bytes (RefusedCertificate e) (Block h c) (h', a, b) (a', b') = absurd (cc (sym b ∙ b'))
one_block bytes (RefusedCertificate e) (RefusedHeader e') (h', a, b) a' = absurd (cc (sym a ∙ a'))
one_block bytes (RefusedCertificate e) (RefusedCertificate e') (h, a, b) (h', a', b') = cc (sym b ∙ b')
one_block bytes (Block h c) (Timeout w) a b = absurd b
one_block bytes (RefusedHeader e) (Timeout w) a b = absurd b
one_block bytes (RefusedCertificate e) (Timeout w) a b = absurd b
one_block bytes (Timeout v) s a b = absurd a
