-- What brought a fault of lines.
use Rattle.std.proofs.Common.{◌≡◌, ℕ, Bool, sym, ◌∙◌, subst}
use Rattle.wf_io.specs.Told.{Rose}
use Rattle.wf_lines.specs.Taking.{IsCauseOf, IsCauseOfHalt, IsWritingCauseOf}
use Rattle.wf_lines.specs.declared.fault.Halt.{Halt}
use Rattle.wf_lines.specs.declared.fault.LinesFault.{LinesFault}
use Rattle.wf_lines.specs.declared.fault.LinesFault.TheVariants.{Stopped, Halted}

-- what brought a fault where nothing was read brought it, where the shelf's count is as it was
pub writing_caused : {F : Type 0} (before after : ℕ) (last : Bool) (old mid new : ℕ) (out_last : Bool) (f : LinesFault F) → after ≡ before → mid ≡ old → IsWritingCauseOf mid new out_last f → IsCauseOf before after last old new out_last f
writing_caused before after last old mid new out_last (Stopped f) read put h = (read, h ∙ put)
writing_caused before after last old mid new out_last (Halted h) read put w =
    subst (λ z. IsCauseOfHalt before after last old new out_last z) (sym w.0) (read, subst (λ n. Rose n new out_last) put w.1)

-- the same where the counts before were these
pub caused_from : (before mid after : ℕ) (last : Bool) (old now new : ℕ) (out_last : Bool) (h : Halt) → mid ≡ before → now ≡ old → IsCauseOfHalt mid after last now new out_last h → IsCauseOfHalt before after last old new out_last h
caused_from before mid after last old now new out_last h read put c =
    subst (λ n. IsCauseOfHalt n after last old new out_last h) read (subst (λ n. IsCauseOfHalt mid after last n new out_last h) put c)
