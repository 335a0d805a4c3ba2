-- The moves of an automaton are those that its text gives.
use Rattle.std.proofs.Common.{◌≡◌, ℕ, zero, suc, ◌<◌, ◌==◌, ◌&&◌, Bool, true, false, cond, List, [], ◌∷◌, map, length, get_or, take, refl, sym, ap, ◌∙◌, subst, inl, inr}
use Rattle.std.proofs.lemmas.Bool.{eqb-true, eq-eqb, and_parts, and_from}
use Rattle.std.proofs.lemmas.List.{get_or-map, length-map}
use Rattle.wf_model.specs.Lists.{IsIn, IsAt}
use Rattle.wf_model.specs.Grammar.{Grammar, Module, module_at}
use Rattle.wf_model.specs.WellFormed.{IsWellFormed}
use Rattle.wf_model.proofs.Lists.{in_at, in_map, in_map_from, at_is, at_below}
use Rattle.wf_spec.specs.Naming.{names_of, place_of}
use Rattle.wf_spec.specs.FirstFaults.{HoldsThroughout}
use Rattle.wf_spec.proofs.Finding.{at_place, place_at, number_below}
use Rattle.wf_spec.proofs.FirstFaults.{holds_of}
use Rattle.words_model.specs.Automata.{Move, moved_by}
use Rattle.wf_automaton.specs.declared.parts.AutoParts.{AutoParts}
use Rattle.wf_automaton.specs.declared.fault.AutoFault.TheVariants.{UnknownModule}
use Rattle.wf_automaton.specs.Rules.{move_of, automaton_of, move_keys, new_moves, name_rule, IsMoveOf}
use Rattle.wf_automaton.specs.Laws.{MovesAsSaid, SaidMovesLaw}

-- a move with a state and a module that no earlier move has leads on
leads_first : (vs : List Move) (k : ℕ) (v : Move) → IsAt v k vs → ¬ IsIn (v.from, v.module_no) (take k (move_keys vs)) → moved_by vs v.from v.module_no ≡ v.to
leads_first [] k v at new = absurd at
leads_first (w ∷ vs) zero v at new =
    ap (λ b. cond b w.to (moved_by vs v.from v.module_no))
    (and_from (w.from == v.from) (w.module_no == v.module_no) (eq-eqb w.from v.from (ap (λ (x : Move). x.from) (sym at))) (eq-eqb w.module_no v.module_no (ap (λ (x : Move). x.module_no) (sym at))))
    ∙ ap (λ (x : Move). x.to) (sym at)
leads_first (w ∷ vs) (suc k) v at new = by ((w.from == v.from) && (w.module_no == v.module_no)) refl (leads_first vs k v at (λ i. new (inr i)))
  where
    by : (b : Bool) → ((w.from == v.from) && (w.module_no == v.module_no)) ≡ b → moved_by vs v.from v.module_no ≡ v.to → cond b w.to (moved_by vs v.from v.module_no) ≡ v.to
    by true e r =
        let p = and_parts (w.from == v.from) (w.module_no == v.module_no) e in
        absurd (new (inl (λ i. (sym (eqb-true w.from v.from p.0) i, sym (eqb-true w.module_no v.module_no p.1) i))))
    by false e r = r

-- where no move has a state and a module, the state stays
stays_at : (vs : List Move) (s m : ℕ) → ((v : Move) → IsIn v vs → v.from ≡ s → v.module_no ≡ m → ⊥) → moved_by vs s m ≡ s
stays_at [] s m never = refl
stays_at (w ∷ vs) s m never = by ((w.from == s) && (w.module_no == m)) refl (stays_at vs s m (λ v i. never v (inr i)))
  where
    by : (b : Bool) → ((w.from == s) && (w.module_no == m)) ≡ b → moved_by vs s m ≡ s → cond b w.to (moved_by vs s m) ≡ s
    by true e r = let p = and_parts (w.from == s) (w.module_no == m) e in absurd (never w (inl refl) (eqb-true w.from s p.0) (eqb-true w.module_no m p.1))
    by false e r = r

module _ (g : Grammar) (formed : IsWellFormed g) (p : AutoParts) (known : HoldsThroughout (name_rule g p.moves)) (new : HoldsThroughout (new_moves (map (move_of g) p.moves))) where
  abbrev moves : List Move
  moves = map (move_of g) p.moves

  name_is : (m : ℕ) → m < length g.modules → get_or (names_of g.modules) m [] ≡ (module_at g m).name
  name_is m below = get_or-map (λ (k : Module). k.name) g.modules m _ [] below

  -- the module of a name that stands at a number has this number
  number_is : (m : ℕ) → m < length g.modules → (n : List ℕ) → (module_at g m).name ≡ n → place_of (names_of g.modules) n ≡ m
  number_is m below n is =
      ap (place_of (names_of g.modules)) (sym (name_is m below ∙ is))
      ∙ place_at (names_of g.modules) m formed.names_differ (subst (λ k. m < k) (sym (length-map g.modules (λ (k : Module). k.name))) below)

  leads_on : (v : Move) → IsIn v moves → moved_by moves v.from v.module_no ≡ v.to
  leads_on v i =
      let at = in_at v moves i in
      let here = get_or-map (λ (w : Move). (w.from, w.module_no)) moves at.0 v (0, 0) (at_below v at.0 moves at.1) ∙ ap (λ (w : Move). (w.from, w.module_no)) (at_is v at.0 moves v at.1) in
      leads_first moves at.0 v at.1 (λ h. new at.0 (at_below v at.0 moves at.1) (subst (λ x. IsIn x (take at.0 (move_keys moves))) (sym here) h))

  pub moves_as_said : MovesAsSaid g p (automaton_of g p)
  moves_as_said = record {
    states = refl;
    start = refl;
    accept = refl;
    leads = λ v i m named.
        ap (moved_by moves v.from) (sym (number_is m named.0 v.«module» named.1)) ∙ leads_on (move_of g v) (in_map (move_of g) v p.moves i);
    stays = λ s m never.
        stays_at moves s m
        (λ w i from here.
        let r = in_map_from (move_of g) w p.moves i in
        let there = holds_of (IsMoveOf g) UnknownModule p.moves known r.0 r.1 in
        let number : place_of (names_of g.modules) r.0.«module» ≡ m = sym (ap (λ (x : Move). x.module_no) r.2) ∙ here in
        let below = subst (λ k. k < length g.modules) number (number_below g.modules r.0.«module» there) in
        never r.0 r.1 (sym (ap (λ (x : Move). x.from) r.2) ∙ from) (
          below,
          sym (name_is m below)
              ∙ (sym (ap (λ k. get_or (names_of g.modules) k []) number)
              ∙ at_is r.0.«module» (place_of (names_of g.modules) r.0.«module») (names_of g.modules) [] (at_place (names_of g.modules) r.0.«module» there)),
        ));
  }

pub said_moves_law : SaidMovesLaw
said_moves_law g formed bytes a t = (t.0, t.1, subst (MovesAsSaid g t.0) (sym t.3) (moves_as_said g formed t.0 t.2.1.1.1.1.0 t.2.1.1.1.1.1.0))
