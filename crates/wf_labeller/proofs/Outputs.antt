-- The outputs of the positions of a body, as the program reads them.
use Rattle.std.proofs.Common.{◌≡◌, ℕ, ◌<◌, ◌≤◌, List, [], map, length, get_or, ap, sym, ◌∙◌, subst}
use Rattle.std.proofs.lemmas.List.{length-map, get_or-map, get_or_read}
use Rattle.std.proofs.lemmas.Simd.{map-map}
use Rattle.wf_model.specs.declared.body.Position.{Position as PositionHeld}
use Rattle.wf_model.specs.Grammar.{Grammar, Module, Position, Inner, Production, production_at, module_at, body_of}
use Rattle.wf_model.specs.WellFormed.{IsWellFormed, IsInnerOutput}
use Rattle.wf_model.specs.Meaning.{position_of}
use Rattle.wf_model.proofs.Lists.{at_below, at_is, is_at, at_in, in_append_right}
use Rattle.wf_labeller.specs.Entries.{body_output_name}

-- the modules of a body, read from its positions
pub body_read : (g : Grammar) (p : ℕ) (r : Production) (qs : List PositionHeld) → r ≡ production_at g p → map position_of qs ≡ r.positions → map (λ (q : PositionHeld). q.module.0) qs ≡ body_of g p
body_read g p r qs is e = sym (map-map (λ (q : Position). q.module_no) position_of qs) ∙ (ap (map (λ (q : Position). q.module_no)) e ∙ ap (λ (z : Production). map (λ (q : Position). q.module_no) z.positions) is)

pub length_read : (g : Grammar) (p : ℕ) (qs : List PositionHeld) → map (λ (q : PositionHeld). q.module.0) qs ≡ body_of g p → length qs ≡ length (body_of g p)
length_read g p qs e = sym (length-map qs (λ (q : PositionHeld). q.module.0)) ∙ ap length e

-- an output of a position
module _ (g : Grammar) (p : ℕ) (from : Inner) (o : IsInnerOutput g p from) where
  pub position_below : from.position < length (body_of g p)
  position_below = at_below o.0 from.position (body_of g p) o.1

  pub module_there : IsWellFormed g → p < length g.productions → o.0 < length g.modules
  module_there wf h = (wf.bodies p h).modules o.0 (at_in o.0 from.position (body_of g p) o.1)

  -- the name has at most 64 bytes
  pub output_short : IsWellFormed g → p < length g.productions → length (body_output_name g p from) ≤ 64
  output_short wf h =
      let m = module_at g o.0 in
      let formed = wf.modules m (at_in m o.0 g.modules (is_at o.0 g.modules (record { name = []; inputs = []; outputs = [] }) (module_there wf h))) in
      let n = get_or m.outputs from.port [] in
      let short : length n ≤ 64 = (formed.ports n (in_append_right n m.inputs m.outputs (at_in n from.port m.outputs (is_at from.port m.outputs [] o.2)))).1 in
      subst (λ k. length (get_or (module_at g k).outputs from.port []) ≤ 64) (sym (at_is o.0 from.position (body_of g p) 0 o.1)) short

  -- the module of the position
  pub module_read : (qs : List PositionHeld) (q : PositionHeld) → map (λ (q : PositionHeld). q.module.0) qs ≡ body_of g p → q ≡ get_or qs from.position q → q.module.0 ≡ o.0
  module_read qs q e is =
      let below : from.position < length qs = subst (λ n. from.position < n) (sym (length_read g p qs e)) position_below in
      ap (λ (z : PositionHeld). z.module.0) is ∙ (sym (get_or-map (λ (z : PositionHeld). z.module.0) qs from.position q 0 below) ∙ (ap (λ l. get_or l from.position 0) e ∙ at_is o.0 from.position (body_of g p) 0 o.1))

  -- the module that is read is the one whose output it is
  outputs_read : (ms : List Module) (m : ℕ) (r : Module) → m ≡ o.0 → o.0 < length g.modules → ms ≡ g.modules → r ≡ get_or ms m r → r ≡ module_at g o.0
  outputs_read ms m r e h s is = get_or_read g.modules o.0 r h (is ∙ (ap (λ l. get_or l m r) s ∙ ap (λ k. get_or g.modules k r) e)) (record { name = []; inputs = []; outputs = [] })

  pub port_below : (ms : List Module) (m : ℕ) (r : Module) → m ≡ o.0 → o.0 < length g.modules → ms ≡ g.modules → r ≡ get_or ms m r → (names : List (List ℕ)) → names ≡ r.outputs → from.port < length names
  port_below ms m r e h s is names w = subst (λ l. from.port < length l) (sym (w ∙ ap (λ (z : Module). z.outputs) (outputs_read ms m r e h s is))) o.2

  pub name_read : (ms : List Module) (m : ℕ) (r : Module) → m ≡ o.0 → o.0 < length g.modules → ms ≡ g.modules → r ≡ get_or ms m r → (names : List (List ℕ)) (x : List ℕ) → names ≡ r.outputs → x ≡ get_or names from.port x →
      x ≡ body_output_name g p from
  name_read ms m r e h s is names x w q =
      get_or_read (module_at g o.0).outputs from.port x o.2 (q ∙ ap (λ l. get_or l from.port x) (w ∙ ap (λ (z : Module). z.outputs) (outputs_read ms m r e h s is))) [] ∙
      ap (λ k. get_or (module_at g k).outputs from.port []) (sym (at_is o.0 from.position (body_of g p) 0 o.1))
