-- A chain leads from one item to another exactly where some list of steps is one.
use Rattle.std.proofs.Common.{ℕ, ◌<◌, List, [], ◌∷◌, length, refl, subst, arith}
use Rattle.wf_model.specs.Lists.{Walk, here, onward}
use Rattle.wf_model.specs.Grammar.{Grammar, Assignment}
use Rattle.wf_model.specs.View.{View}
use Rattle.wf_model.specs.declared.event.Event.{Event}
use Rattle.wf_model.specs.Items.{Item}
use Rattle.chain_model.specs.Chains.{ChainStep, LeadsOn, HasItemChain, StepsLead}
use Rattle.chain_model.specs.Laws.{ChainListLaw}

module _ (g : Grammar) (u : View) (d : Assignment) (m : ℕ) (events : List Event) where
  listed : {x y : Item} → Walk (LeadsOn g u d m events) x y → (steps : List ChainStep) × StepsLead g u d m events x steps y
  listed here = ([], refl)
  listed (onward {y = z} s w) = let r = listed w in (record { via = s.0; item = z } ∷ r.0, (s.1, r.1))

  walked : (x y : Item) (steps : List ChainStep) → StepsLead g u d m events x steps y → Walk (LeadsOn g u d m events) x y
  walked x y [] h = subst (Walk (LeadsOn g u d m events) x) h here
  walked x y (s ∷ steps) h = onward (s.via, h.0) (walked s.item y steps h.1)

  chain_from : (x y : Item) (steps : List ChainStep) → 0 < length steps → StepsLead g u d m events x steps y → HasItemChain g u d m events x y
  chain_from x y [] some h = absurd (omega arith)
  chain_from x y (s ∷ steps) some h = (s.item, (s.via, h.0), walked s.item y steps h.1)

pub chain_list_law : ChainListLaw
chain_list_law g u d m events x y there visible = (
  (λ c. let r = listed g u d m events c.2 in (record { via = c.1.0; item = c.0 } ∷ r.0, record { there = there; visible = visible; some = omega arith; steps_lead = (c.1.1, r.1) })),
  (λ c. chain_from g u d m events x y c.0 c.1.some c.1.steps_lead),
)
