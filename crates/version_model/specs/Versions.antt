-- What a version of a grammar goes on by, views that show a grammar alike, and grammars that are built alike.
use Rattle.std.specs.Prelude.{◌≡◌, ℕ, ◌<◌, false, length, Some}
use Rattle.wf_model.specs.Grammar.{Grammar, inputs_of, outputs_of}
use Rattle.wf_model.specs.View.{View, expands, shows}
use Rattle.wf_model.specs.Reach.{Step}
use Rattle.label_model.specs.Continuing.{continuing, after}

-- the continuing steps that lead on from a module, one after another, are by the first p productions
abbrev pub GoesOnWithin : Grammar → ℕ → ℕ → Type 0
GoesOnWithin g p k = (c : ℕ) (s : Step) → continuing g (after g c k) ≡ Some s → s.production < p

-- two views show a grammar alike: they expand the same modules of it, and show the others of it with the same pairs
pub record ShowAlike (g : Grammar) (u w : View) : Type 0 where
  pub expanded : (k : ℕ) → k < length g.modules → expands w k ≡ expands u k
  pub shown : (k : ℕ) → k < length g.modules → expands u k ≡ false → (i o : ℕ) → i < inputs_of g k → o < outputs_of g k → shows w k i o ≡ shows u k i o

-- Two grammars are built alike: they have the same start module, the same modules and the same productions. They may give other pairs to their modules
pub record AreBuiltAlike (g h : Grammar) : Type 0 where
  pub start : h.start ≡ g.start
  pub modules : h.modules ≡ g.modules
  pub productions : h.productions ≡ g.productions
