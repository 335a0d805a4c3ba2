-- What a call of `next` leaves.
use Rattle.std.specs.Prelude.{◌≡◌, ◌<◌, ℕ, Bool, true, false, List, [], Option, Some, is_some, IfSome, Result, Ok, Err, MatchResult, IfOk, OnOk, OnErr}
use Rattle.std.specs.Borrow.{MutBor, Fml}
use Rattle.std.specs.Io.BufRead.{Rests}
use denote.Ref.{Bor}
use mir.Syntax.{named}
use Rattle.wf_io.specs.Told.{File}
use Rattle.wf_io.specs.Readings.{Reading}
use Rattle.wf_io.specs.Readers.{Reader, Stands, left_in, left_over, Advances, Stops, TellsLine, GoesOnReading}
use Rattle.wf_io.specs.declared.lines.LineFault.{LineFault}
use Rattle.wf_io.specs.contracts.lines.Lines.{the_row}

-- whether a line is lent
abbrev pub lends : Result (Option (Bor (List ℕ))) LineFault → Result Bool LineFault
lends (Ok lent) = Ok (is_some lent)
lends (Err fault) = Err fault

-- the reader is behind the first line that was left, which is lent; or the file is at its end; or it refuses
pub record IsNext (files : Option (List ℕ → File)) (before after : Option (List Reading)) (old : Reader) (result : Result (Option (Bor (List ℕ))) LineFault) (new : Reader) : Type 0 where
  pub lines : (f : List ℕ → File) → files ≡ Some f → Stands (f old.name) old
      → MatchResult result (λ lent. Advances (is_some lent) (left_in (f old.name) old) new (left_in (f old.name) new))
      (λ fault. Stops (left_in (f old.name) old) new fault)
  pub stands : OnOk result ((f : List ℕ → File) → files ≡ Some f → Stands (f old.name) old → Stands (f old.name) new)
  pub held : IfOk result (λ lent. IfSome lent (λ text. text.now ≡ new.held))
  pub name : new.name ≡ old.name
  pub live : OnOk result (new.live ≡ true)
  pub dead : OnErr result (new.live ≡ false)
  pub line : TellsLine old new (lends result)
  pub reading : OnOk result (GoesOnReading old new before after)
  pub less : IfOk result (λ lent. is_some lent ≡ true → left_over new < left_over old)

abbrev pub RestsNext : Option (List ℕ → File) → Option (List Reading) → Option (List Reading) → MutBor Reader → Reader → Result (Option (Bor (List ℕ))) LineFault → Fml
RestsNext files before after s old result = Rests (the_row (record { mir = named 1; lft = [] })) s (IsNext files before after old result)
