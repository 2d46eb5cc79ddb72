-- What a judgement comes to.
use Rattle.std.proofs.Common.{◌≡◌, ◌≢◌, ◌∷◌, ℕ, List, Option, String, inl, inr, sym, ◌∙◌, subst, arith}
use Rattle.std.specs.declared.alloc.Global.{Global}
use Rattle.blocks.specs.Committees.{IsCommittee}
use Rattle.verdict_format.specs.Proofs.{IsProof}
use Rattle.verdict_checker.specs.Checks.{IsRefused}
use Rattle.verdict_checker.specs.declared.refusal.Refusal.{Refusal}
use Rattle.program_check.specs.Answers.{Answers}
use Rattle.program_check.specs.Texts.{accepted_line, refused_line}
use Rattle.program_check.specs.Judgements.{AreTexts, ComesTo, IsJudgement}

-- of a proof the verdict is accepted
pub accepted_is : (committee verdict : List ℕ) (status : ℕ) (line : List ℕ) → IsJudgement committee verdict status line → IsProof committee verdict
    → (status ≡ 0) × (line ≡ accepted_line verdict)
accepted_is committee verdict status line is proof =
    elim is [
      | inl accepted ↦ (accepted.0, accepted.2)
      | inr refused ↦ absurd (refused.1 proof)
    ]

-- .. and of none it is refused
pub refused_is : (committee verdict : List ℕ) (status : ℕ) (line : List ℕ) → IsJudgement committee verdict status line → (IsProof committee verdict → ⊥)
    → (status ≡ 1) × ((r : Refusal) × IsRefused committee verdict r × (line ≡ refused_line r))
refused_is committee verdict status line is none =
    elim is [
      | inl accepted ↦ absurd (none accepted.1)
      | inr refused ↦ (refused.0, refused.2)
    ]

-- a judgement's status is another
pub no_fault : (committee verdict : List ℕ) (status : ℕ) (line : List ℕ) → IsJudgement committee verdict status line → status ≢ 2
no_fault committee verdict status line is two =
    elim is [
      | inl accepted ↦ omega (arith, accepted.0, two)
      | inr refused ↦ omega (arith, refused.0, two)
    ]

-- what it comes to, once the committee was read
pub comes_to : (words : List (String Global)) (stdin : Option (List ℕ)) (committee verdict bytes parsed seen : List ℕ) (status : ℕ) (line line' : List ℕ)
    → AreTexts words stdin committee verdict → bytes ≡ committee → parsed ≡ bytes → seen ≡ verdict → IsCommittee bytes → IsJudgement parsed seen status line
    → line' ≡ line → ComesTo words stdin status line'
comes_to words stdin committee verdict bytes parsed seen status line line' texts same read same' under is printed = record {
  committee = committee;
  verdict = verdict;
  texts = texts;
  under = subst (λ (b : List ℕ). IsCommittee b) same under;
  judgement = subst (λ (l : List ℕ). IsJudgement committee verdict status l) (sym printed)
      (subst (λ (v : List ℕ). IsJudgement committee v status line) same' (subst (λ (c : List ℕ). IsJudgement c seen status line) (read ∙ same) is));
}

pub answers_so : (before after : Option (List ℕ)) (failures failures' : ℕ) (line line' : List ℕ) (status status' answer : ℕ) → line ≡ line' → status ≡ status'
    → Answers before after failures failures' line status answer → Answers before after failures failures' line' status' answer
answers_so before after failures failures' line line' status status' answer l s is =
    subst (λ (n : ℕ). Answers before after failures failures' line' n answer) s
    (subst (λ (t : List ℕ). Answers before after failures failures' t status answer) l is)
