-- What contracts see of the fields of a reader, and what is true of them.
use Rattle.std.specs.Prelude.{◌+◌, ◌≤◌, length, take, drop}
use Rattle.wf_io.specs.Readers.{Reader}
use Rattle.wf_io.specs.Steps.{HasNoNewline, Sound}
use Rattle.wf_io.specs.declared.lines.Lines.TheInside.{Inside}

abbrev pub seen : Inside → Reader
seen r = record {
  name = r.name.now;
  place = r.place;
  kept = drop r.lent r.window;
  number = r.number;
  line = r.line;
  held = take r.text r.window;
  live = r.live;
  wants = r.wants;
  ended = r.ended;
}

-- the line that was lent is in the window, and in so many bytes behind it there is no newline
pub record IsSearched (r : Inside) : Type 0 where
  pub text : r.text ≤ r.lent
  pub searched : r.lent + r.searched ≤ length r.window
  pub none : HasNoNewline (take r.searched (drop r.lent r.window))
  pub sound : Sound (seen r)
