-- A stage has an outcome where its file is told or refused, and what follows has one.
use Rattle.std.proofs.Common.{◌≡◌, ◌⊎◌, ◌≤◌, ℕ, Bool, true, false, List, length, Option, None, refl, inl, inr, ⊎_elim}
use Rattle.std.proofs.lemmas.Bool.{cases_lt}
use Rattle.wf_io.specs.Told.{File}
use Rattle.wf_message.specs.Endings.{End, Refused, ReadFault}
use Rattle.wf_stage.specs.Kinds.{Kind}
use Rattle.wf_stage.specs.Outcomes.{HasOutcome}
use Rattle.wf_stage.specs.Stages.{Stage, too_long, broken, refused, goes_on}

module _ {A : Type 0} (kind : Kind) (first : List ℕ) (file : File) (Tells : List ℕ → A → Type 0) (Refuses : List ℕ → Option ℕ → List ℕ → Type 0) (Next : A → End → List ℕ → Type 0) where
  -- bytes tell a value, or are refused
  abbrev pub IsToldOrRefused : Type 0
  IsToldOrRefused = ((a : A) × Tells file.bytes a) ⊎ ((line : Option ℕ) × (fault : List ℕ) × Refuses file.bytes line fault)

  pub some_stage : IsToldOrRefused → ((a : A) → Tells file.bytes a → HasOutcome (Next a)) → HasOutcome (Stage kind first file Tells Refuses Next)
  some_stage how next = ⊎_elim (λ l. (Refused kind.word None kind.long_fault, first, too_long l refl refl)) (λ l. by_end l file.broken refl how) (cases_lt kind.most (length file.bytes))
    where
      by_end : length file.bytes ≤ kind.most → (b : Bool) → file.broken ≡ b → IsToldOrRefused → HasOutcome (Stage kind first file Tells Refuses Next)
      by_end l true is r = (ReadFault kind.word, first, broken l is refl refl)
      by_end l false is (inl told) = let r = next told.0 told.1 in (r.0, r.1, goes_on l is told.0 told.1 r.2)
      by_end l false is (inr why) = (Refused kind.word why.0 why.1, first, refused l is why.0 why.1 why.2 refl refl)
