-- Rows of the seen modules, found one module after another in order of rank.
use Rattle.std.specs.Prelude.{◌≡◌, ◌↔◌, ◌<◌, ℕ, false, IsTrue, List, length, get_or, set, Option, Some}
use Rattle.wf_model.specs.Grammar.{Grammar, inputs_of, outputs_of, head_of}
use Rattle.wf_model.specs.View.{View, expands, shows, IsSeenModule}
use Rattle.wf_model.specs.Meaning.{pairs_of}
use Rattle.wf_model.specs.Safe.{BodyJoins}
use Rattle.wf_body.specs.Matrices.{HasRows, IsMatrixOf}
use Rattle.wf_check.specs.Proper.{Ranking}
use Rattle.wf_safe.specs.Full.{AreFit}
use Rattle.wf_safe.specs.Witness.{ComesBefore}

-- the rank of a module
abbrev pub rank_of : Ranking → ℕ → ℕ
rank_of r m = get_or r.ranks m 0

-- the production that is chosen for a module: the one that attains its rank
abbrev pub choice_of : Ranking → ℕ → ℕ
choice_of r m = get_or r.choices m 0

-- a module is seen, and the view expands it
abbrev pub IsSeenExpanded : Grammar → View → ℕ → Type 0
IsSeenExpanded g u m = IsSeenModule g u m × IsTrue (expands u m)

-- a module has rows of exactly these pairs
pub record HasPairs (g : Grammar) (rows : List (Option (List ℕ))) (m : ℕ) (R : ℕ → ℕ → Type 0) : Type 0 where
  pub held : HasRows g rows m
  pub pairs : (i o : ℕ) → i < inputs_of g m → o < outputs_of g m → IsTrue (pairs_of rows m i o) ↔ R i o

-- those that the view shows of it
abbrev pub HasShown : Grammar → View → List (Option (List ℕ)) → ℕ → Type 0
HasShown g u rows m = HasPairs g rows m (λ i o. IsTrue (shows u m i o))

-- those that the body of its chosen production joins
abbrev pub HasInduced : Grammar → Ranking → List (Option (List ℕ)) → ℕ → Type 0
HasInduced g r rows m = HasPairs g rows m (BodyJoins g (pairs_of rows) (choice_of r m))

-- What is set fits. Of the modules below n, each that is seen and not expanded has the pairs that the view shows
pub record AreShownBelow (g : Grammar) (u : View) (n : ℕ) (rows : List (Option (List ℕ))) : Type 0 where
  pub one_each : length rows ≡ length g.modules
  pub fit : AreFit g rows
  pub shown : (m : ℕ) → m < n → IsSeenModule g u m → expands u m ≡ false → HasShown g u rows m

-- What is set fits. Each module that is seen and not expanded has the pairs that the view shows. Each seen, expanded module that comes before module k of rank n, by rank and then number, has the pairs that its chosen production induces
pub record AreInducedBefore (g : Grammar) (u : View) (r : Ranking) (n k : ℕ) (rows : List (Option (List ℕ))) : Type 0 where
  pub one_each : length rows ≡ length g.modules
  pub fit : AreFit g rows
  pub shown : (m : ℕ) → IsSeenModule g u m → expands u m ≡ false → HasShown g u rows m
  pub induced : (m : ℕ) → IsSeenExpanded g u m → ComesBefore (rank_of r m) m n k → HasInduced g r rows m

-- so it is for each seen module
pub record AreInduced (g : Grammar) (u : View) (r : Ranking) (rows : List (Option (List ℕ))) : Type 0 where
  pub one_each : length rows ≡ length g.modules
  pub fit : AreFit g rows
  pub shown : (m : ℕ) → IsSeenModule g u m → expands u m ≡ false → HasShown g u rows m
  pub induced : (m : ℕ) → IsSeenExpanded g u m → HasInduced g r rows m

-- the head of a production is given the rows of the pairs that the body joins
pub record GetsInduced (g : Grammar) (p : ℕ) (old new : List (Option (List ℕ))) : Type 0 where
  pub rows : List ℕ
  pub set : new ≡ set old (head_of g p) (Some rows)
  pub induced : IsMatrixOf (inputs_of g (head_of g p)) (outputs_of g (head_of g p)) (BodyJoins g (pairs_of old) p) (record { rows = rows; columns = outputs_of g (head_of g p) })
