-- Tables of rows of pairs, in which modules are settled by a choice of productions.
use Rattle.std.specs.Prelude.{◌≡◌, ◌↔◌, ◌<◌, ◌^◌, ℕ, Bool, true, false, IsTrue, List, Option, None, Some, length, get_or, set, is_some, is_none, count_by}
use Rattle.std.specs.List.{All}
use Rattle.wf_model.specs.Lists.{IsIn, Walk}
use Rattle.wf_model.specs.Grammar.{Grammar, inputs_of, outputs_of, body_of}
use Rattle.wf_model.specs.View.{View, expands, shows}
use Rattle.wf_model.specs.Meaning.{pairs_of}
use Rattle.wf_model.specs.Safe.{BodyJoins, IsChosen}
use Rattle.wf_laws.specs.Settled.{IsSettled}
use Rattle.bool_mat.specs.Matrix.{has}
use Rattle.wf_body.specs.Matrices.{HasRows}
use Rattle.wf_safe.specs.declared.witness.Witness.{Witness}
use Rattle.wf_safe.specs.Witness.{Disagree}

-- a module has rows in the table
abbrev pub is_set : List (Option (List ℕ)) → ℕ → Bool
is_set rows m = is_some (get_or rows m None)

-- so has each module of a body
abbrev pub AreSet : Grammar → ℕ → List (Option (List ℕ)) → Type 0
AreSet g p rows = (m : ℕ) → IsIn m (body_of g p) → IsTrue (is_set rows m)

-- a table has a place for each module, and what stands in it are rows of the module's ports
pub record IsTable (g : Grammar) (rows : List (Option (List ℕ))) : Type 0 where
  pub one_each : length rows ≡ length g.modules
  pub formed : (m : ℕ) → IsTrue (is_set rows m) → HasRows g rows m

-- rows for the ports of m, with the pairs that the body of p joins by the table
pub record AreJoinedRows (g : Grammar) (table : List (Option (List ℕ))) (m p : ℕ) (rows : List ℕ) : Type 0 where
  pub one_each : length rows ≡ inputs_of g m
  pub no_more : All (λ r. r < 2 ^ outputs_of g m) rows
  pub pairs : (i o : ℕ) → i < inputs_of g m → o < outputs_of g m → IsTrue (has (get_or rows i 0) o) ↔ BodyJoins g (pairs_of table) p i o

-- the module m, which had no rows, gets those that the body of p joins, as each module of this body has rows
pub record Settles (g : Grammar) (m p : ℕ) (before after : List (Option (List ℕ))) : Type 0 where
  pub unset : is_set before m ≡ false
  pub ready : AreSet g p before
  pub rows : List ℕ
  pub joined : AreJoinedRows g before m p rows
  pub written : after ≡ set before m (Some rows)

-- one of the choices settles its module
abbrev pub SettlesOne : Grammar → List (ℕ × ℕ) → List (Option (List ℕ)) → List (Option (List ℕ)) → Type 0
SettlesOne g choice before after = (m : ℕ) × (p : ℕ) × IsChosen choice m p × Settles g m p before after

-- a choice adds nothing to a table: its module has rows already, or some module of the body of its production has none
abbrev pub AddsNothing : Grammar → List (Option (List ℕ)) → ℕ → ℕ → Type 0
AddsNothing g rows m p = AreSet g p rows → IsTrue (is_set rows m)

-- a choice was tried: it settled its module, or it adds nothing
pub record IsTried (g : Grammar) (m p : ℕ) (before : List (Option (List ℕ))) (settled : Bool) (after : List (Option (List ℕ))) : Type 0 where
  pub settles : settled ≡ true → Settles g m p before after
  pub same : settled ≡ false → after ≡ before
  pub nothing : settled ≡ false → AddsNothing g before m p

-- how many modules have no rows
abbrev pub unset : List (Option (List ℕ)) → ℕ
unset = count_by is_none

-- Some of the choices were tried, one after another. Some of them settled their modules, or none adds anything
pub record AreTried (g : Grammar) (choice tried : List (ℕ × ℕ)) (before : List (Option (List ℕ))) (settled : Bool) (after : List (Option (List ℕ))) : Type 0 where
  pub steps : Walk (SettlesOne g choice) before after
  pub fewer : settled ≡ true → unset after < unset before
  pub same : settled ≡ false → after ≡ before
  pub nothing : settled ≡ false → (m p : ℕ) → IsChosen tried m p → AddsNothing g before m p

-- the rows of a module are the pairs that the view shows
abbrev pub AreShown : Grammar → View → List (Option (List ℕ)) → ℕ → Type 0
AreShown g u rows m = (i o : ℕ) → i < inputs_of g m → o < outputs_of g m → pairs_of rows m i o ≡ shows u m i o

-- the rows of a module are the pairs that the body of p joins
abbrev pub AreJoined : Grammar → List (Option (List ℕ)) → ℕ → ℕ → Type 0
AreJoined g rows m p = (i o : ℕ) → i < inputs_of g m → o < outputs_of g m → IsTrue (pairs_of rows m i o) ↔ BodyJoins g (pairs_of rows) p i o

-- A table that is right as far as it goes. Each module that is not expanded has the pairs that the view shows. What has rows is settled by the choice, and where a production is chosen for it, so has each module of the body of this production, and the rows are the pairs that the body joins
pub record AreRowsByChoice (g : Grammar) (u : View) (choice : List (ℕ × ℕ)) (rows : List (Option (List ℕ))) : Type 0 where
  pub table : IsTable g rows
  pub shown : (m : ℕ) → m < length g.modules → expands u m ≡ false → IsTrue (is_set rows m) × AreShown g u rows m
  pub settled : (m : ℕ) → IsTrue (is_set rows m) → IsSettled g u (IsChosen choice) m
  pub bodies : (m p : ℕ) → IsChosen choice m p → IsTrue (is_set rows m) → AreSet g p rows × AreJoined g rows m p

-- a table that is right, and to which no choice adds anything
pub record AreAllRowsByChoice (g : Grammar) (u : View) (choice : List (ℕ × ℕ)) (rows : List (Option (List ℕ))) : Type 0 where
  pub right : AreRowsByChoice g u choice rows
  pub all : (m p : ℕ) → IsChosen choice m p → AddsNothing g rows m p

-- by a table the two productions of a witness disagree on its pair as it says
pub record AreApart (g : Grammar) (rows : List (Option (List ℕ))) (w : Witness) : Type 0 where
  pub one_set : IsTrue (is_set rows w.«module».0)
  pub other_set : AreSet g w.other.0 rows
  pub disagree : Disagree w.joined_by_one (IsTrue (pairs_of rows w.«module».0 w.input.0 w.output.0)) (BodyJoins g (pairs_of rows) w.other.0 w.input.0 w.output.0)
