-- Kinds of files that commands read.
use Rattle.std.specs.Prelude.{ℕ, List}
use Rattle.wf_stage.specs.declared.kind.FileKind.{FileKind}

-- a kind of file: its word in messages, the most bytes that such a file may have, and the fault where it has more
pub record Kind : Type 0 where
  pub word : List ℕ
  pub most : ℕ
  pub long_fault : List ℕ

-- the kind that a value is
abbrev pub kind_of : FileKind → Kind
kind_of k = record { word = k.place.word.now; most = k.most; long_fault = k.too_long.now }
