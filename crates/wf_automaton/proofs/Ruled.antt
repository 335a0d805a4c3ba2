-- What the rules on parts give of the automaton that they describe, and how rules are told one behind the other.
use Rattle.std.proofs.Common.{◌≡◌, ◌⊎◌, ℕ, ◌<◌, Bool, List, [], ◌∷◌, ◌++◌, Option, map, length, sym, ap, subst, ◌∙◌, inl, inr, ⊎_elim, arith}
use Rattle.wf_model.specs.Lists.{IsIn}
use Rattle.wf_model.specs.Grammar.{Grammar, Module}
use Rattle.wf_model.proofs.Lists.{in_map_from}
use Rattle.wf_spec.specs.FirstFaults.{Rule, AllHold, HoldsThroughout, IsFirstFault}
use Rattle.wf_spec.specs.Naming.{names_of, place_of}
use Rattle.wf_spec.proofs.Finding.{number_below}
use Rattle.wf_spec.proofs.FirstFaults.{holds_of}
use Rattle.words_model.specs.Automata.{Automaton, Move, IsAutomaton}
use Rattle.words_model.specs.Laws.{Fits}
use Rattle.wf_automaton.specs.declared.parts.MovePart.{MovePart}
use Rattle.wf_automaton.specs.declared.parts.AutoParts.{AutoParts}
use Rattle.wf_automaton.specs.declared.fault.AutoMember.TheVariants.{Accept, Moves}
use Rattle.wf_automaton.specs.declared.fault.AutoFault.{AutoFault}
use Rattle.wf_automaton.specs.declared.fault.AutoFault.TheVariants.{StateBad, UnknownModule, TooManyStates, NoMemory}
use Rattle.wf_automaton.specs.Forms.{IsAutoText, IsShapeFault}
use Rattle.wf_automaton.specs.Rules.{move_of, automaton_of, state_rules, name_rule, port_rule, new_moves, AreSomeStates, IsMoveBelow, IsMoveOf, HasFewPortsIn, auto_rules, TellsAutomaton, IsAutoFault}
use Rattle.wf_automaton.specs.Tables.{AreFlagsOf, AreMovesOf, AreTablesOf}

-- a fault of the first rules is one of all
pub in_front : {F : Type 0} (rs ts : List (Rule F)) (f : F) → IsFirstFault rs f → IsFirstFault (rs ++ ts) f
in_front [] ts f h = absurd h
in_front (r ∷ rs) ts f (inl h) = inl h
in_front (r ∷ rs) ts f (inr h) = inr (h.0, in_front rs ts f h.1)

-- so is one of those behind them, where they hold
pub behind : {F : Type 0} (rs ts : List (Rule F)) (f : F) → AllHold rs → IsFirstFault ts f → IsFirstFault (rs ++ ts) f
behind [] ts f a h = h
behind (r ∷ rs) ts f a h = inr (a.0, behind rs ts f a.1 h)

-- rules that hold, and those behind them
pub together : {F : Type 0} (rs ts : List (Rule F)) → AllHold rs → AllHold ts → AllHold (rs ++ ts)
together [] ts a b = b
together (r ∷ rs) ts a b = (a.0, together rs ts a.1 b)

-- a move by the number of the module that is named
pub move_is : (g : Grammar) (part : MovePart) (v : Move) (m : ℕ) → v.from ≡ part.from → v.module_no ≡ m → m ≡ place_of (names_of g.modules) part.«module» → v.to ≡ part.to → v ≡ move_of g part
move_is g part v m f n is t =
    let e : v.module_no ≡ place_of (names_of g.modules) part.«module» = n ∙ is in
    λ i. record { from = f i; module_no = e i; to = t i }

module _ (g : Grammar) (p : AutoParts) (states : AllHold (state_rules p)) where
  pub some_states : AreSomeStates p.states
  some_states = states.0 0 (omega arith)

  pub start_below : p.start < p.states
  start_below = states.1.0 0 (omega arith)

  pub accept_below : (s : ℕ) → IsIn s p.accept → s < p.states
  accept_below = holds_of (λ s. s < p.states) (λ k. StateBad Accept) p.accept states.1.1.0

  pub part_below : (v : MovePart) → IsIn v p.moves → IsMoveBelow p.states v
  part_below = holds_of (IsMoveBelow p.states) (λ k. StateBad Moves) p.moves states.1.1.1.0

  -- the automaton names states of it only
  pub is_automaton : IsAutomaton (automaton_of g p)
  is_automaton = record {
    start = start_below;
    accept = accept_below;
    moves = λ v h.
        let r = in_map_from (move_of g) v p.moves h in
        let b = part_below r.0 r.1 in
        (subst (λ w. w < p.states) (sym (ap (λ (w : Move). w.from) r.2)) b.0, subst (λ w. w < p.states) (sym (ap (λ (w : Move). w.to) r.2)) b.1);
  }

  -- and its moves modules of the grammar
  pub moves_bound : HoldsThroughout (name_rule g p.moves) → (v : Move) → IsIn v (map (move_of g) p.moves) → (v.from < p.states) × (v.module_no < length g.modules) × (v.to < p.states)
  moves_bound known v h =
      let r = in_map_from (move_of g) v p.moves h in
      let b = is_automaton.moves v h in
      let n = number_below g.modules r.0.«module» (holds_of (IsMoveOf g) UnknownModule p.moves known r.0 r.1) in
      (b.0, subst (λ w. w < length g.modules) (sym (ap (λ (w : Move). w.module_no) r.2)) n, b.1)

  -- it fits the grammar
  pub fits : HoldsThroughout (port_rule g p.states) → Fits g (automaton_of g p)
  fits few = record {
    automaton = is_automaton;
    states = some_states.1;
    ports = holds_of (HasFewPortsIn p.states) (λ m. TooManyStates) g.modules few;
  }

  module _ (known : HoldsThroughout (name_rule g p.moves)) (moves : List Move) (is : moves ≡ map (move_of g) p.moves) where
    -- the moves that are made name states and modules that are there
    pub all_bound : (modules : List Module) → modules ≡ g.modules → (read : List Move) → read ≡ moves → (v : Move) → IsIn v read → (v.from < p.states) × (v.module_no < length modules) × (v.to < p.states)
    all_bound modules same read of v h =
        let b = moves_bound known v (subst (IsIn v) (of ∙ is) h) in
        (b.0, subst (λ (ms : List Module). v.module_no < length ms) (sym same) b.1, b.2)

    -- and its tables are those of the automaton
    pub tables_made : (accept : List ℕ) → accept ≡ p.accept → (read : List Move) → read ≡ moves → (flags : List Bool) (table : List (Option ℕ)) → AreFlagsOf accept flags → AreMovesOf p.states read table
        → AreTablesOf (automaton_of g p) flags table
    tables_made accept same read of flags table marked leading = record {
      formed = is_automaton;
      accepting = subst (λ states. AreFlagsOf states flags) same marked;
      leading = subst (λ vs. AreMovesOf p.states vs table) (of ∙ is) leading;
    }

-- parts that keep all rules
module _ (g : Grammar) (p : AutoParts) (all : AllHold (auto_rules g p)) where
  pub rules_of_states : AllHold (state_rules p)
  rules_of_states = (all.0, (all.1.0, (all.1.1.0, (all.1.1.1.0, tt))))

  -- with moves that are those of the parts an automaton is that of the parts
  module _ (moves : List Move) (is : moves ≡ map (move_of g) p.moves) where
    abbrev made : Automaton
    made = record { states = p.states; start = p.start; accept = p.accept; moves = moves }

    made_is : made ≡ automaton_of g p
    made_is = λ i. record { states = p.states; start = p.start; accept = p.accept; moves = is i }

    pub made_tables : (flags : List Bool) (table : List (Option ℕ)) → AreTablesOf (automaton_of g p) flags table → AreTablesOf made flags table
    made_tables flags table h = subst (λ a. AreTablesOf a flags table) (sym made_is) h

    pub made_tells : (bytes : List ℕ) → IsAutoText bytes p → (a : Automaton) → a ≡ made → TellsAutomaton g bytes a
    made_tells bytes read a same = (p, read, all, same ∙ made_is)

    pub made_fits : (a : Automaton) → a ≡ made → Fits g a
    made_fits a same = subst (Fits g) (sym (same ∙ made_is)) (fits g p rules_of_states all.1.1.1.1.1.1.0)

-- a fault that is told is one of the bytes
module _ (g : Grammar) (bytes : List ℕ) (f : AutoFault) where
  pub shape_refused : (f ≡ NoMemory) ⊎ IsShapeFault bytes f → (f ≡ NoMemory) ⊎ IsAutoFault g bytes f
  shape_refused h = ⊎_elim (λ e. inl e) (λ s. inr (inl s)) h

  pub rules_refused : (p : AutoParts) → IsAutoText bytes p → (f ≡ NoMemory) ⊎ IsFirstFault (auto_rules g p) f → (f ≡ NoMemory) ⊎ IsAutoFault g bytes f
  rules_refused p read h = ⊎_elim (λ e. inl e) (λ r. inr (inr (p, read, r))) h

-- the first rule that parts break is one of all rules
module _ (g : Grammar) (p : AutoParts) (f : AutoFault) where
  abbrev later_rules : List (Rule AutoFault)
  later_rules = name_rule g p.moves ∷ new_moves (map (move_of g) p.moves) ∷ port_rule g p.states ∷ []

  pub states_refused : IsFirstFault (state_rules p) f → (f ≡ NoMemory) ⊎ IsFirstFault (auto_rules g p) f
  states_refused h = inr (in_front (state_rules p) later_rules f h)

  module _ (states : AllHold (state_rules p)) where
    by_later : IsFirstFault later_rules f → (f ≡ NoMemory) ⊎ IsFirstFault (auto_rules g p) f
    by_later h = inr (behind (state_rules p) later_rules f states h)

    pub names_refused : (list : List MovePart) → list ≡ p.moves → (f ≡ NoMemory) ⊎ IsFirstFault (name_rule g list ∷ []) f → (f ≡ NoMemory) ⊎ IsFirstFault (auto_rules g p) f
    names_refused list is h =
        ⊎_elim (λ e. inl e)
        (λ s. by_later (in_front (name_rule g p.moves ∷ []) (new_moves (map (move_of g) p.moves) ∷ port_rule g p.states ∷ []) f (subst (λ vs. IsFirstFault (name_rule g vs ∷ []) f) is s))) h

    module _ (known : HoldsThroughout (name_rule g p.moves)) where
      pub moves_refused : (list : List Move) → list ≡ map (move_of g) p.moves → (f ≡ NoMemory) ⊎ IsFirstFault (new_moves list ∷ []) f → (f ≡ NoMemory) ⊎ IsFirstFault (auto_rules g p) f
      moves_refused list is h =
          ⊎_elim (λ e. inl e)
          (λ s. by_later (inr (known, in_front (new_moves (map (move_of g) p.moves) ∷ []) (port_rule g p.states ∷ []) f (subst (λ vs. IsFirstFault (new_moves vs ∷ []) f) is s)))) h

      pub ports_refused : HoldsThroughout (new_moves (map (move_of g) p.moves)) → IsFirstFault (port_rule g p.states ∷ []) f → (f ≡ NoMemory) ⊎ IsFirstFault (auto_rules g p) f
      ports_refused new h = by_later (inr (known, inr (new, h)))
