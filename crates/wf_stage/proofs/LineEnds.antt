-- The end at which the lines of a file stop, and the end of the command.
use Rattle.std.proofs.Common.{◌≡◌, ℕ, Bool, List, Some, refl, subst}
use Rattle.wf_io.specs.Told.{Rose}
use Rattle.wf_lines.specs.Taking.{halt_end, end_at, IsCauseOfHalt, IsCauseOf, IsStoppedAs, IsWritingFault}
use Rattle.wf_lines.specs.declared.fault.Halt.{Halt}
use Rattle.wf_lines.specs.declared.fault.Halt.TheVariants.{LineTooLong, FileTooLong, ReadFault as ReadingFailed, WriteFault as WritingFailed}
use Rattle.wf_lines.specs.declared.fault.LinesFault.{LinesFault}
use Rattle.wf_lines.specs.declared.fault.LinesFault.TheVariants.{Stopped, Halted}
use Rattle.wf_message.specs.Endings.{End, Done, Usage, Refused, ReadFault, WriteFault, NoMemory}
use Rattle.wf_stage.specs.Stages.{IsRefusedOrWanting}
use Rattle.wf_stage.specs.Ends.{IsOfOutcome}
use Rattle.wf_stage.specs.Causes.{IsCause, IsReadingCause}
use Rattle.wf_stage.specs.LineEnds.{line_ends, end_of_halt, end_of_fault, told_end}
use Rattle.wf_stage.proofs.Stages.{refused_cause}

-- an end that is of the outcome says something of files
told_of_outcome : (e : End) → IsOfOutcome e → told_end e ≡ Some e
told_of_outcome Done w = refl
told_of_outcome Usage w = refl
told_of_outcome (Refused word line fault) w = refl
told_of_outcome (ReadFault word) w = refl
told_of_outcome WriteFault w = absurd (w.0 refl)
told_of_outcome NoMemory w = absurd (w.1 refl)

-- and where it says something, this is the end
pub told_is : (e d : End) → told_end e ≡ Some d → d ≡ e
told_is Done d p = cc
told_is Usage d p = cc
told_is (Refused word line fault) d p = cc
told_is (ReadFault word) d p = cc
told_is WriteFault d p = absurd (cc)
told_is NoMemory d p = absurd (cc)

-- the end of a halt is that at which the lines halt, where it is of the outcome
halt_of_outcome : (word : List ℕ) (h : Halt) → IsOfOutcome (end_of_halt word h) → halt_end (line_ends word) h ≡ Some (end_of_halt word h)
halt_of_outcome word (LineTooLong n) w = refl
halt_of_outcome word (FileTooLong n) w = refl
halt_of_outcome word ReadingFailed w = refl
halt_of_outcome word WritingFailed w = absurd (w.0 refl)

-- so is the end of a fault of lines
pub fault_of_outcome : {F : Type 0} (ends : F → End) (word : List ℕ) (f : LinesFault F) → IsOfOutcome (end_of_fault ends word f) → end_at (line_ends word) (λ x. told_end (ends x)) f ≡ Some (end_of_fault ends word f)
fault_of_outcome ends word (Stopped x) w = told_of_outcome (ends x) w
fault_of_outcome ends word (Halted h) w = halt_of_outcome word h w

-- what brought a halt brought the end of the command
halt_caused : (word : List ℕ) (before after : ℕ) (last : Bool) (old new : ℕ) (out_last : Bool) (h : Halt) → IsCauseOfHalt before after last old new out_last h → IsCause before after last old new out_last (end_of_halt word h)
halt_caused word before after last old new out_last (LineTooLong n) c = c
halt_caused word before after last old new out_last (FileTooLong n) c = c
halt_caused word before after last old new out_last ReadingFailed c = c
halt_caused word before after last old new out_last WritingFailed c = c

-- so where writing does not fail
halt_caused_reading : (word : List ℕ) (before after : ℕ) (last : Bool) (old new : ℕ) (out_last : Bool) (h : Halt) → (Rose old new out_last → ⊥) → IsCauseOfHalt before after last old new out_last h → IsReadingCause before after last (end_of_halt word h)
halt_caused_reading word before after last old new out_last (LineTooLong n) never c = c.0
halt_caused_reading word before after last old new out_last (FileTooLong n) never c = c.0
halt_caused_reading word before after last old new out_last ReadingFailed never c = c.0
halt_caused_reading word before after last old new out_last WritingFailed never c = absurd (never c.1)

-- a refusal, and want of memory, leave both counts as they are
refused_caused : (before after : ℕ) (last : Bool) (old new : ℕ) (out_last : Bool) (e : End) → (after ≡ before) × (new ≡ old) → IsRefusedOrWanting e → IsCause before after last old new out_last e
refused_caused before after last old new out_last Done same h = absurd h
refused_caused before after last old new out_last Usage same h = absurd h
refused_caused before after last old new out_last (Refused word line fault) same h = same
refused_caused before after last old new out_last (ReadFault word) same h = absurd h
refused_caused before after last old new out_last WriteFault same h = absurd h
refused_caused before after last old new out_last NoMemory same h = same

-- what brought a fault of lines brought the end of the command, where what takes them refuses or wants memory
pub fault_caused : {F : Type 0} (ends : F → End) (word : List ℕ) (before after : ℕ) (last : Bool) (old new : ℕ) (out_last : Bool) (f : LinesFault F) → IsStoppedAs (λ x. IsRefusedOrWanting (ends x)) f → IsCauseOf before after last old new out_last f → IsCause before after last old new out_last (end_of_fault ends word f)
fault_caused ends word before after last old new out_last (Stopped x) h c = refused_caused before after last old new out_last (ends x) c h
fault_caused ends word before after last old new out_last (Halted halt) h c = halt_caused word before after last old new out_last halt c

-- so where writing does not fail
pub fault_caused_reading : {F : Type 0} (ends : F → End) (word : List ℕ) (before after : ℕ) (last : Bool) (old new : ℕ) (out_last : Bool) (f : LinesFault F) → (Rose old new out_last → ⊥) → IsStoppedAs (λ x. IsRefusedOrWanting (ends x)) f → IsCauseOf before after last old new out_last f → IsReadingCause before after last (end_of_fault ends word f)
fault_caused_reading ends word before after last old new out_last (Stopped x) never h c = refused_cause before after last (ends x) c.0 h
fault_caused_reading ends word before after last old new out_last (Halted halt) never h c = halt_caused_reading word before after last old new out_last halt never c

-- a command that ends by a fault of writing ends by that of its lines, where what takes them refuses or wants memory
pub writing_of_lines : {F : Type 0} (ends : F → End) (word : List ℕ) (f : LinesFault F) → IsStoppedAs (λ x. IsRefusedOrWanting (ends x)) f → end_of_fault ends word f ≡ WriteFault → IsWritingFault f
writing_of_lines ends word (Stopped x) h is = subst IsRefusedOrWanting is h
writing_of_lines ends word (Halted (LineTooLong n)) h is = absurd (cc)
writing_of_lines ends word (Halted (FileTooLong n)) h is = absurd (cc)
writing_of_lines ends word (Halted ReadingFailed) h is = absurd (cc)
writing_of_lines ends word (Halted WritingFailed) h is = refl
