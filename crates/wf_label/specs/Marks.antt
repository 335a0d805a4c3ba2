-- The marks of a label: what it tells, in order, with the productions and steps that its numbers name in the grammar.
use Rattle.std.specs.Prelude.{◌≡◌, ◌≢◌, ℕ, ◌+◌, ◌^◌, ◌<◌, Bool, true, false, List, [], ◌∷◌, ◌++◌, length, get_or, flat_map, Option, Some, None, MatchOption}
use Rattle.wf_model.specs.Grammar.{Grammar, production_at, inputs_of, outputs_of, head_of, alternative_of, IsProductionOf}
use Rattle.wf_model.specs.Reach.{Step, target_of}
use Rattle.wf_model.specs.Linear.{IsStepOf}
use Rattle.bit_pack.specs.Gamma.{gamma}
use Rattle.label_model.specs.Continuing.{continuing, after}
use Rattle.label_model.specs.Labels.{PlaceStep, Label, Input, Output, OfEdge, label_bits, IsLabel}
use Rattle.wf_spec.specs.Tables.{productions_of}
use Rattle.wf_recur.specs.Cycles.{step_of}
use Rattle.wf_label.specs.declared.cursor.Ahead.{Ahead}
use Rattle.wf_label.specs.declared.cursor.Ahead.TheVariants.{Whole, Entered, Passed, Nothing}
use Rattle.wf_label.specs.declared.place.Front.{Front}
use Rattle.wf_label.specs.declared.place.Front.TheVariants.{Input as InputFront, Output as OutputFront, OfEdge as EdgeFront}
use Rattle.wf_label.specs.declared.place.Part.{Part}
use Rattle.wf_label.specs.declared.place.Part.TheVariants.{Into as IntoPart, End as EndPart}
use Rattle.wf_label.specs.declared.cursor.Mark.{Mark as MarkHeld}
use Rattle.wf_label.specs.declared.cursor.Mark.TheVariants.{Input as InputHeld, Output as OutputHeld, Chain as ChainHeld, Into as IntoHeld, End as EndHeld}

-- a port of the root; a number of continuing steps; another step; or the production and the edge at which a place ends
pub data Mark : Type 0 where
  AtInput : (port : ℕ) → Mark
  AtOutput : (port : ℕ) → Mark
  Chain : (steps : ℕ) → Mark
  Into : (step : Step) → Mark
  End : (production : ℕ) → (edge : ℕ) → Mark

-- a mark, as the definitions see it
abbrev pub mark_of : MarkHeld → Mark
mark_of (InputHeld p) = AtInput p.0
mark_of (OutputHeld p) = AtOutput p.0
mark_of (ChainHeld c) = Chain c
mark_of (IntoHeld s) = Into (step_of s)
mark_of (EndHeld p e) = End p.0 e.0

-- what a mark names is there in the grammar
abbrev pub IsMarkOf : Grammar → Mark → Type 0
IsMarkOf g (AtInput p) = p < inputs_of g g.start
IsMarkOf g (AtOutput p) = p < outputs_of g g.start
IsMarkOf g (Chain c) = c < 2 ^ 24
IsMarkOf g (Into s) = IsStepOf g (head_of g s.production) s
IsMarkOf g (End p e) = (p < length g.productions) × (e < length (production_at g p).edges)

-- the production of a module with this alternative number
abbrev pub production_by : Grammar → ℕ → ℕ → ℕ
production_by g m a = get_or (productions_of g m) a 0

-- the module to which a chain number leads from m, and m itself where there is none
abbrev pub passed : Grammar → ℕ → Option ℕ → ℕ
passed g m None = m
passed g m (Some c) = after g c m

-- a chain number, if there is one
abbrev pub chain_marks : Option ℕ → List Mark
chain_marks None = []
chain_marks (Some c) = Chain c ∷ []

-- the step that a step of a place at the module m names
abbrev pub step_at : Grammar → ℕ → PlaceStep → Step
step_at g m s = record { production = production_by g (passed g m s.chain) s.alternative; position = s.position }

-- the marks of a place at the module m, of which these steps are left
abbrev pub place_marks : Grammar → ℕ → List PlaceStep → Option ℕ → ℕ → ℕ → List Mark
place_marks g m [] chain a e = chain_marks chain ++ End (production_by g (passed g m chain) a) e ∷ []
place_marks g m (s ∷ steps) chain a e = chain_marks s.chain ++ Into (step_at g m s) ∷ place_marks g (target_of g (step_at g m s)) steps chain a e

-- the marks of a label
abbrev pub marks_of : Grammar → Label → List Mark
marks_of g (Input p) = AtInput p ∷ []
marks_of g (Output p) = AtOutput p ∷ []
marks_of g (OfEdge p) = place_marks g g.start p.steps p.chain p.alternative p.edge

-- the bits of a mark; before those of a place stands one bit more
abbrev pub mark_bits : Grammar → Mark → List Bool
mark_bits g (AtInput p) = false ∷ false ∷ gamma (p + 1)
mark_bits g (AtOutput p) = false ∷ true ∷ gamma (p + 1)
mark_bits g (Chain c) = gamma (c + 1)
mark_bits g (Into s) = true ∷ (gamma (alternative_of g s.production + 1) ++ gamma (s.position + 1))
mark_bits g (End p e) = false ∷ (gamma (alternative_of g p + 1) ++ gamma (e + 1))

-- Marks of a place at the module m: a chain number, exactly if m is on a cycle and none was told; steps; and an end
abbrev pub AreMarksAt : Grammar → ℕ → Bool → List Mark → Type 0
AreMarksAt g m told [] = ⊥
AreMarksAt g m told (AtInput p ∷ ms) = ⊥
AreMarksAt g m told (AtOutput p ∷ ms) = ⊥
AreMarksAt g m told (Chain c ∷ ms) = (told ≡ false) × (continuing g m ≢ None) × (c < 2 ^ 24) × AreMarksAt g (after g c m) true ms
AreMarksAt g m told (Into s ∷ ms) = (told ≡ false → continuing g m ≡ None) × IsStepOf g m s × AreMarksAt g (target_of g s) false ms
AreMarksAt g m told (End p e ∷ ms) = (told ≡ false → continuing g m ≡ None) × IsProductionOf g p m × (e < length (production_at g p).edges) × (ms ≡ [])

-- the bits begin with those of marks of a place at the module m
pub record BeginMarks (g : Grammar) (m : ℕ) (told : Bool) (bits : List Bool) (marks : List Mark) : Type 0 where
  pub of_it : AreMarksAt g m told marks
  pub behind : List Bool
  pub is : bits ≡ flat_map (mark_bits g) marks ++ behind

-- the bits begin with those of a label that has these marks
pub record BeginLabel (g : Grammar) (bits : List Bool) (marks : List Mark) : Type 0 where
  pub label : Label
  pub of_it : IsLabel g label
  pub behind : List Bool
  pub is : bits ≡ label_bits label ++ behind
  pub marks_are : marks ≡ marks_of g label

-- the bits begin with those of some label, or of marks of some place at the module m
abbrev pub HasLabel : Grammar → List Bool → Type 0
HasLabel g bits = (marks : List Mark) × BeginLabel g bits marks

abbrev pub HasPlace : Grammar → ℕ → Bool → List Bool → Type 0
HasPlace g m told bits = (marks : List Mark) × BeginMarks g m told bits marks

-- a label is read from the front of these bits
abbrev pub IsBegunBy : List Bool → List Bool → Type 0
IsBegunBy label bits = (behind : List Bool) × (bits ≡ label ++ behind)

-- The front of a label is read: of whatever label the bits begin with, it tells the only mark, or the marks of a place are left
abbrev pub IsFrontRead : Grammar → List Bool → Front → List Bool → Type 0
IsFrontRead g bits (InputFront p) left = (marks : List Mark) → BeginLabel g bits marks → marks ≡ AtInput p.0 ∷ []
IsFrontRead g bits (OutputFront p) left = (marks : List Mark) → BeginLabel g bits marks → marks ≡ AtOutput p.0 ∷ []
IsFrontRead g bits EdgeFront left = (marks : List Mark) → BeginLabel g bits marks → BeginMarks g g.start false left marks

-- a chain number is read at the module m: of whatever marks were left it is the first, and those of a place at the module to which it leads are left
abbrev pub IsChainRead : Grammar → ℕ → List Bool → ℕ → List Bool → Type 0
IsChainRead g m bits c left =
    (marks : List Mark) → BeginMarks g m false bits marks → (rest : List Mark) × (marks ≡ Chain c ∷ rest) × BeginMarks g (after g c m) true left rest

-- the mark of a part
abbrev pub mark_of_part : Part → Mark
mark_of_part (IntoPart s to) = Into (step_of s)
mark_of_part (EndPart p e) = End p.0 e.0

-- behind a step are the marks of a place at the module to which it leads, and none behind an end
abbrev pub AreBehind : Grammar → Part → List Bool → List Mark → Type 0
AreBehind g (IntoPart s to) bits marks = (to.0 ≡ target_of g (step_of s)) × BeginMarks g to.0 false bits marks
AreBehind g (EndPart p e) bits marks = marks ≡ []

-- a part is read at the module m: of whatever marks were left it is the first
abbrev pub IsPartRead : Grammar → ℕ → List Bool → Part → List Bool → Type 0
IsPartRead g m bits part left =
    (marks : List Mark) → BeginMarks g m true bits marks → (rest : List Mark) × (marks ≡ mark_of_part part ∷ rest) × AreBehind g part left rest

-- what is ahead has these marks
abbrev pub AreAhead : Grammar → Ahead → List Bool → List Mark → Type 0
AreAhead g Whole bits marks = BeginLabel g bits marks
AreAhead g (Entered m) bits marks = BeginMarks g m.0 false bits marks
AreAhead g (Passed m) bits marks = BeginMarks g m.0 true bits marks
AreAhead g Nothing bits marks = marks ≡ []

-- some marks are ahead
abbrev pub HasMarks : Grammar → Ahead → List Bool → Type 0
HasMarks g ahead bits = (marks : List Mark) × AreAhead g ahead bits marks

-- a cursor: its grammar, what is ahead, and the bits that are left
pub record CursorSeen : Type 0 where
  pub grammar : Grammar
  pub ahead : Ahead
  pub left : List Bool

-- these marks are left
abbrev pub AreLeft : CursorSeen → List Mark → Type 0
AreLeft c marks = AreAhead c.grammar c.ahead c.left marks

-- a mark is read: of whatever marks were ahead it is the first, and the others are ahead then
abbrev pub IsFirst : Grammar → Ahead → List Bool → MarkHeld → Ahead → List Bool → Type 0
IsFirst g before bits mark then left = (marks : List Mark) → AreAhead g before bits marks → (rest : List Mark) × (marks ≡ mark_of mark ∷ rest) × AreAhead g then left rest

-- a cursor tells a mark: of whatever marks were left it is the first, and the others are left then; it tells none where none is left
abbrev pub IsNext : CursorSeen → Option MarkHeld → CursorSeen → Type 0
IsNext old told new =
    (marks : List Mark) → AreLeft old marks →
    MatchOption told ((marks ≡ []) × AreLeft new []) (λ k. (rest : List Mark) × (marks ≡ mark_of k ∷ rest) × AreLeft new rest)
