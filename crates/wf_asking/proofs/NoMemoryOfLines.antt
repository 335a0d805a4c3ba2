-- When memory is wanting where lines of queries are answered.
use Rattle.std.proofs.Common.{◌≡◌, ℕ, Bool, refl, sym, ◌∙◌, subst}
use Rattle.std.specs.Prelude.{Result, Ok, Err, IfErr}
use Rattle.wf_query.specs.Lines.{IsCauseOf}
use Rattle.wf_query.specs.declared.batching.BatchFault.{BatchFault}
use Rattle.wf_query.specs.declared.batching.BatchFault.TheVariants.{LineWrong, LineTooLong, FileTooLong, ReadFault, WriteFault as WritingFailed, NoMemory as WantedMemory}
use Rattle.wf_message.specs.Endings.{End, Done, NoMemory}
use Rattle.wf_asking.specs.Batched.{end_at, end_by}

-- a fault of lines that ends a command for want of memory is want of memory
fault_wants : (f : BatchFault) (e : End) → e ≡ end_at f → e ≡ NoMemory → f ≡ WantedMemory
fault_wants f e is wants = go f (sym is ∙ wants)
  where
    go : (f : BatchFault) → end_at f ≡ NoMemory → f ≡ WantedMemory
    go (LineWrong n) wants = absurd (cc)
    go (LineTooLong n) wants = absurd (cc)
    go (FileTooLong n) wants = absurd (cc)
    go ReadFault wants = absurd (cc)
    go WritingFailed wants = absurd (cc)
    go WantedMemory wants = refl

-- no count of faults of out rises at it
wants_quietly : (before after : ℕ) (last : Bool) (out_before out_after : ℕ) (out_last : Bool) (f : BatchFault) → f ≡ WantedMemory → IsCauseOf before after last out_before out_after out_last f → out_after ≡ out_before
wants_quietly before after last out_before out_after out_last f is cause = (subst (λ x. IsCauseOf before after last out_before out_after out_last x) is cause).1

-- so what holds where memory was wanting holds where lines end a command for it, and no count of faults of out rises
pub untouched_so : {N P : Type 0} (before after : ℕ) (last : Bool) (out_before out_after : ℕ) (out_last : Bool) (r : Result N BatchFault) (e : End) → e ≡ end_by r → e ≡ NoMemory
    → IfErr r (λ f. f ≡ WantedMemory → P) → IfErr r (IsCauseOf before after last out_before out_after out_last) → P × (out_after ≡ out_before)
untouched_so before after last out_before out_after out_last (Ok n) e is wants h cause = let other : Done ≡ NoMemory = sym is ∙ wants in absurd (cc)
untouched_so before after last out_before out_after out_last (Err f) e is wants h cause =
    let w = fault_wants f e is wants in
    (h w, wants_quietly before after last out_before out_after out_last f w cause)
