-- How a vote is judged, and a certificate.
use Rattle.std.specs.Prelude.{◌≡◌, ◌⊎◌, ◌<◌, ◌+◌, ◌^◌, ℕ, List, None, Result, Ok, Err, codes}
use Rattle.blocks.specs.Headers.{Header}
use Rattle.certificates.specs.BlockChecks.{IsBlockRefusal, IsOnParent}
use Rattle.certificates.specs.Certificates.{Certificate}
use Rattle.certificates.specs.GoodCertificates.{IsGoodCertificate}
use Rattle.certificates.specs.VoteChecks.{IsVoteRefusal, vote_refusal_number}
use Rattle.certificates.specs.Votes.{IsGoodVote}
use Rattle.certificates.specs.declared.certificate.CertificateRefusal.{CertificateRefusal}
use Rattle.certificates.specs.declared.checked_block.BlockRefusal.{BlockRefusal}
use Rattle.certificates.specs.declared.checked_block.BlockRefusal.TheVariants.{WrongBlock}
use Rattle.certificates.specs.declared.vote.SignedVote.{SignedVote}
use Rattle.certificates.specs.declared.vote.VoteRefusal.{VoteRefusal}
use Rattle.http_server.specs.declared.response.Response.{Response}
use Rattle.replica_requests.specs.declared.outcome.Outcome.{Outcome}
use Rattle.replica_requests.specs.declared.outcome.Outcome.TheVariants as came
use Rattle.signer_service.specs.Names.{vote_refusal_name}
use Rattle.signer_service.specs.Responses.{IsLine, named_line}
use Rattle.signer_service.specs.ToldLines.{outcome_status, told_line}

-- "refused vote N NAME"
abbrev pub vote_line : VoteRefusal → List ℕ
vote_line refusal = named_line (codes "refused vote ") (vote_refusal_number refusal) (vote_refusal_name refusal)

-- the vote is good, or it is refused by the first test that it does not pass
abbrev pub IsJudgementTold : List ℕ → SignedVote → Response → Type 0
IsJudgementTold committee vote response =
    (IsGoodVote committee vote × IsLine 200 (codes "good\n") response)
    ⊎ ((refusal : VoteRefusal) × IsVoteRefusal committee vote refusal × IsLine 422 (vote_line refusal) response)

-- ---- a certificate

-- a block can be on it: its view is not the last
abbrev pub HasNext : Certificate → Type 0
HasNext c = c.view + 1 < 2 ^ 64

-- the certificate is good, and a block can be on it
abbrev pub IsCertificateGood : List ℕ → Certificate → Type 0
IsCertificateGood committee c = HasNext c × IsGoodCertificate committee c

-- each block that is on it is refused so; where none can be, by the first test of a block
abbrev pub IsCertificateRefused : List ℕ → Certificate → BlockRefusal → Type 0
IsCertificateRefused committee c refusal =
    (HasNext c × ((h : Header) → IsOnParent h c → IsBlockRefusal refusal committee h c))
    ⊎ ((HasNext c → ⊥) × (refusal ≡ WrongBlock))

-- the response tells what a block is told that comes to this
abbrev pub IsOutcomeLine : Outcome → Response → Type 0
IsOutcomeLine outcome response = IsLine (outcome_status outcome) (told_line None outcome) response

-- bytes that are no certificate are refused as behind a header; a certificate is good, or refused as a block on it is
abbrev pub IsCertificateTold : List ℕ → Result Certificate CertificateRefusal → Response → Type 0
IsCertificateTold committee (Err refusal) response = IsOutcomeLine (came.RefusedCertificate refusal) response
IsCertificateTold committee (Ok c) response =
    (IsCertificateGood committee c × IsLine 200 (codes "good\n") response)
    ⊎ ((refusal : BlockRefusal) × IsCertificateRefused committee c refusal × IsOutcomeLine (came.RefusedBlock refusal) response)
