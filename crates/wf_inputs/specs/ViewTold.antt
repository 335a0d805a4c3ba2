-- What the bytes of a view tell: a safe view of a grammar, or why they are refused.
use Rattle.std.specs.Prelude.{◌≡◌, ◌⊎◌, ℕ, List, Ok, Err, codes}
use Rattle.serde_json.specs.Data.{Data}
use Rattle.wf_model.specs.declared.parts.ViewParts.{ViewParts}
use Rattle.wf_model.specs.Grammar.{Grammar}
use Rattle.wf_model.specs.View.{View}
use Rattle.wf_model.specs.Safe.{IsSafe}
use Rattle.wf_json.specs.declared.fault.Member.{Member}
use Rattle.wf_json.specs.Reading.{IsReading, HasNoReading}
use Rattle.wf_json.specs.ViewForm.{view_of as parts_in}
use Rattle.wf_check.specs.Proper.{Ranking, IsRankingOf}
use Rattle.wf_view.specs.declared.fault.ViewFault.{ViewFault}
use Rattle.wf_view.specs.Viewing.{view_of}
use Rattle.wf_view.specs.Rules.{IsViewed, IsFaultOf}
use Rattle.wf_safe.specs.declared.witness.Witness.{Witness}
use Rattle.wf_safe.specs.Witness.{IsFirstWitness}
use Rattle.wf_safe.specs.WitnessText.{unsafe_text}
use Rattle.wf_json.specs.FaultText.{shape_text}
use Rattle.wf_view.specs.FaultText.{view_text}

-- the bytes are a view in JSON
abbrev pub IsViewText : List ℕ → ViewParts → Type 0
IsViewText bytes parts = (d : Data) × IsReading bytes d × (parts_in d ≡ Ok parts)

-- the bytes are the text of this view of the grammar, and it is safe
pub record TellsView (g : Grammar) (bytes : List ℕ) (u : View) : Type 0 where
  pub parts : ViewParts
  pub read : IsViewText bytes parts
  pub viewed : IsViewed g parts
  pub is : u ≡ view_of g parts
  pub safe : IsSafe g u

-- why a view is refused: it is not safe, and its first witness is told
abbrev pub RefusesUnsafe : Grammar → View → List ℕ → Type 0
RefusesUnsafe g u fault =
    (¬ IsSafe g u) × ((r : Ranking) × (w : Witness) × IsRankingOf g r × IsFirstWitness g u r w × (fault ≡ unsafe_text g w))

-- why parts are refused: they break a rule; or their view is not safe
abbrev pub RefusesViewParts : Grammar → ViewParts → List ℕ → Type 0
RefusesViewParts g parts fault =
    ((f : ViewFault) × IsFaultOf g parts f × (fault ≡ view_text f)) ⊎
    (IsViewed g parts × RefusesUnsafe g (view_of g parts) fault)

-- why a value is refused: a member has not its form; or the parts that it says are refused
abbrev pub RefusesViewData : Grammar → Data → List ℕ → Type 0
RefusesViewData g d fault =
    ((m : Member) × (parts_in d ≡ Err m) × (fault ≡ shape_text m)) ⊎
    ((parts : ViewParts) × (parts_in d ≡ Ok parts) × RefusesViewParts g parts fault)

-- why bytes are refused: they have no reading; or the value that they read as is refused
abbrev pub RefusesView : Grammar → List ℕ → List ℕ → Type 0
RefusesView g bytes fault =
    (HasNoReading bytes × (fault ≡ codes "NotJson")) ⊎
    ((d : Data) × IsReading bytes d × RefusesViewData g d fault)
