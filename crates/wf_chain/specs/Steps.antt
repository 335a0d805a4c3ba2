-- The steps of a chain in a run under a safe view, and the ports at which they begin and end.
use Rattle.std.specs.Prelude.{◌≡◌, ◌↔◌, ℕ, ◌<◌, IsTrue, List, length, Option, Some, None}
use Rattle.wf_model.specs.declared.numbers.Side.{Side}
use Rattle.wf_model.specs.declared.numbers.Side.TheVariants.{Input, Output}
use Rattle.wf_model.specs.Lists.{IsIn, Walk}
use Rattle.wf_model.specs.Run.{Instance, IsOpen, seen_in}
use Rattle.wf_model.specs.Links.{Port, output}
use Rattle.wf_model.specs.Items.{Item, IsVisible}
use Rattle.wf_model.specs.Grammar.{Grammar, Inner, Production, outputs_of}
use Rattle.chain_model.specs.Chains.{ChainStep, IsEntry, IsExit, Consumes, IsStepFrom, unopened_pairs}
use Rattle.wf_flat.specs.declared.graph.Port.{Port as PortHeld}
use Rattle.wf_flat.specs.declared.item.Item.{Item as ItemHeld}
use Rattle.wf_flat.specs.Table.{Table, names_in}
use Rattle.wf_flat.specs.Graph.{inst_at, named_port}
use Rattle.wf_chain.specs.declared.chain.ChainStep.{ChainStep as StepHeld}
use Rattle.wf_chain.specs.declared.chain.WrongStep.{WrongStep}
use Rattle.wf_chain.specs.declared.chain.WrongStep.TheVariants.{Via, Onward}
use Rattle.wf_chain.specs.HeldItems.{module_of, side_names, item_of}
use Rattle.wf_chain.specs.ViewedRuns.{ViewedRunValue, grammar_in, view_in, full_in, events_in, item_in, IsItemIn}

-- the ports of positions to which the entries of a production lead, by input, or from which its exits lead, by output
abbrev pub side_inners : Side → Production → List Inner
side_inners Input r = r.entries
side_inners Output r = r.exits

-- the instance of a number is seen
abbrev pub IsSeenIn : ViewedRunValue → ℕ → Type 0
IsSeenIn v k = IsIn (inst_at v.run.instances k) (seen_in (grammar_in v) (view_in v) (grammar_in v).start (events_in v))

-- the instance of a number is open
abbrev pub IsOpenIn : ViewedRunValue → ℕ → Type 0
IsOpenIn v k = IsOpen (grammar_in v) (view_in v) (grammar_in v).start (events_in v) (inst_at v.run.instances k)

-- a port of a seen instance, which its module has
pub record IsSeenPort (v : ViewedRunValue) (p : PortHeld) : Type 0 where
  pub there : p.instance < length v.run.instances
  pub seen : IsSeenIn v p.instance
  pub in_range : p.port.0 < length (side_names p.side (module_of (grammar_in v) v.run p.instance))

-- the port of a number, by the name of its instance
abbrev pub port_in : ViewedRunValue → PortHeld → Port (List ℕ)
port_in v p = named_port (names_in v.run.instances) p

-- entries, maybe none, lead from an input inwards; exits, maybe none, lead to an output from within
abbrev pub LeadsInward : ViewedRunValue → Side → PortHeld → PortHeld → Type 0
LeadsInward v Input p q = Walk (IsEntry (grammar_in v) (view_in v) (grammar_in v).start (events_in v)) (port_in v p) (port_in v q)
LeadsInward v Output p q = Walk (IsExit (grammar_in v) (view_in v) (grammar_in v).start (events_in v)) (port_in v q) (port_in v p)

-- the innermost port to which entries lead from a port, or from which exits lead to it: that of an instance that is not open
pub record IsInnerEnd (v : ViewedRunValue) (p q : PortHeld) : Type 0 where
  pub port : IsSeenPort v q
  pub not_open : ¬ IsOpenIn v q.instance
  pub side : q.side ≡ p.side
  pub inward : LeadsInward v p.side p q

-- the innermost port of one that may not be there
abbrev pub IsEndOf : ViewedRunValue → Option PortHeld → Option PortHeld → Type 0
IsEndOf v None None = Unit {0}
IsEndOf v None (Some q) = ⊥
IsEndOf v (Some p) None = ⊥
IsEndOf v (Some p) (Some q) = IsInnerEnd v p q

-- an instance consumes an item, in a run under a safe view
abbrev pub ConsumesIn : ViewedRunValue → Item → Instance → Type 0
ConsumesIn v x n = Consumes (grammar_in v) (view_in v) (grammar_in v).start (events_in v) x n

-- a port of a seen instance that is not open, on one side
pub record IsUnopened (v : ViewedRunValue) (s : Side) (p : PortHeld) : Type 0 where
  pub port : IsSeenPort v p
  pub not_open : ¬ IsOpenIn v p.instance
  pub side : p.side ≡ s

-- The item y is visible, and an input of an instance that is not open leads to it: exits, maybe none, lead from an output of the instance to the port that produces y, and the input and the output are a pair of the instance
pub record IsLedTo (v : ViewedRunValue) (p : PortHeld) (y : Item) : Type 0 where
  pub visible : IsVisible (grammar_in v) (view_in v) (grammar_in v).start (events_in v) y
  pub to : Port (List ℕ)
  pub o : ℕ
  pub output_there : o < outputs_of (grammar_in v) (inst_at v.run.instances p.instance).module_no
  pub pair : IsTrue (unopened_pairs (view_in v) (full_in v) (inst_at v.run.instances p.instance).module_no p.port.0 o)
  pub exits : Walk (IsExit (grammar_in v) (view_in v) (grammar_in v).start (events_in v)) (output (inst_at v.run.instances p.instance).name o) to
  pub produced : y.produced ≡ Some to

-- the step that a held step is, in a run of a grammar
abbrev pub step_of : Grammar → Table → StepHeld → ChainStep
step_of g t s = record { via = inst_at t.instances s.via; item = item_of g t s.item }

-- in a run under a safe view
abbrev pub step_in : ViewedRunValue → StepHeld → ChainStep
step_in v s = step_of (grammar_in v) v.run s

-- the instance and the item of a held step are the run's
pub record IsStepIn (v : ViewedRunValue) (s : StepHeld) : Type 0 where
  pub via : s.via < length v.run.instances
  pub item : IsItemIn v s.item

-- a step goes on from an item
abbrev pub GoesOn : ViewedRunValue → ItemHeld → StepHeld → Type 0
GoesOn v i s = IsStepFrom (grammar_in v) (view_in v) (full_in v) (grammar_in v).start (events_in v) (item_in v i) (step_in v s)

-- The instance of a number consumes an item at an input: through it the item leads to those items alone to which the input leads
pub record IsConsumedBy (v : ViewedRunValue) (i : ItemHeld) (k : ℕ) (p : PortHeld) : Type 0 where
  pub consumes : ConsumesIn v (item_in v i) (inst_at v.run.instances k)
  pub unopened : IsUnopened v Input p
  pub onward : (j : ItemHeld) → IsItemIn v j → GoesOn v i (record { via = k; item = j }) ↔ IsLedTo v p (item_in v j)

-- what is wrong of a step from an item: its instance does not consume the item; or it does, and the item does not lead through it to that of the step, or the view does not show this one
abbrev pub IsWrong : ViewedRunValue → ItemHeld → StepHeld → WrongStep → Type 0
IsWrong v i s Via = ¬ ConsumesIn v (item_in v i) (inst_at v.run.instances s.via)
IsWrong v i s Onward = ConsumesIn v (item_in v i) (inst_at v.run.instances s.via) × ¬ GoesOn v i s
