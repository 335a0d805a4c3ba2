-- How many ports the sides of the instances have, and that the ports of links are among them.
use Rattle.std.proofs.Common.{◌≡◌, ℕ, zero, suc, ◌+◌, ◌*◌, ◌<◌, ◌≤◌, ◌^◌, List, [], ◌∷◌, ◌++◌, map, length, get_or, Option, Some, None, refl, sym, ap, subst, ◌∙◌, arith, inl, inr, ⊎_elim}
use Rattle.std.proofs.Math.Nat.{mod-eq_of_lt}
use Rattle.wf_model.specs.declared.numbers.ProdNo.{ProdNo}
use Rattle.wf_model.specs.declared.numbers.Side.{Side}
use Rattle.wf_model.specs.declared.numbers.Side.TheVariants.{Input, Output}
use Rattle.wf_model.specs.Lists.{IsIn, IsAt}
use Rattle.wf_model.specs.Grammar.{Grammar, Inner, body_of, production_at, inputs_of, outputs_of}
use Rattle.wf_model.specs.WellFormed.{IsWellFormed, IsWellFormedBody, IsInnerInput, IsInnerOutput}
use Rattle.wf_model.proofs.Lists.{in_append_cases, in_map_from, at_is, at_below}
use Rattle.wf_model.proofs.Level.{in_numbers}
use Rattle.wf_spec.specs.Sides.{side_place}
use Rattle.wf_flat.specs.declared.table.Inst.{Inst}
use Rattle.wf_flat.specs.declared.graph.Link.{Link}
use Rattle.wf_flat.specs.Table.{Table, IsTableOf, no_instance}
use Rattle.wf_flat.specs.Graph.{child_port, edge_at, entries_at, exits_at, wiring_at, pairs_by}
use Rattle.wf_flat.specs.Numbering.{widths_of, IsWide, AreWide}
use Rattle.wf_flat.proofs.OfInstance.{production_there}
use Rattle.wf_flat.proofs.Children.{child_module, child_there, head_is}
use Rattle.wf_flat.proofs.Within.{pair_in}

-- how many ports a module has on a side
abbrev pub width_on : Grammar → ℕ → Side → ℕ
width_on g m Input = inputs_of g m
width_on g m Output = outputs_of g m

pub length-widths : (g : Grammar) (xs : List Inst) → length (widths_of g xs) ≡ 2 * length xs
length-widths g [] = refl
length-widths g (x ∷ xs) = let r = length-widths g xs in omega arith

-- the width of a side of an instance
pub width_at : (g : Grammar) (xs : List Inst) (k : ℕ) (s : Side) → k < length xs → get_or (widths_of g xs) (2 * k + side_place s) 0 ≡ width_on g (get_or xs k no_instance).module.0 s
width_at g [] k s h = absurd (omega arith)
width_at g (x ∷ xs) zero Input h = refl
width_at g (x ∷ xs) zero Output h = refl
width_at g (x ∷ xs) (suc k) s h =
    let low : k < length xs = omega arith in
    let e : 2 * suc k + side_place s ≡ suc (suc (2 * k + side_place s)) = omega arith in
    ap (λ n. get_or (widths_of g (x ∷ xs)) n 0) e ∙ width_at g xs k s low

module _ (g : Grammar) (t : Table) (run : IsTableOf g t) (wf : IsWellFormed g) (small : length t.instances < 2 ^ 32) where
  abbrev widths : List ℕ
  widths = widths_of g t.instances

  -- a port below the width of its side
  wide : (k : ℕ) (s : Side) (n : ℕ) → k < length t.instances → n < width_on g (get_or t.instances k no_instance).module.0 s → IsWide widths (record { instance = k; side = s; port = record { 0 = n } })
  wide k s n h l = subst (λ w. n < w) (sym (width_at g t.instances k s h)) l

  module _ (k : ℕ) (there : k < length t.instances) where
    abbrev x : Inst
    x = get_or t.instances k no_instance

    module _ (p : ProdNo) (by : x.production ≡ Some p) where
      in_range : p.0 < length g.productions
      in_range = production_there g t run wf k there p by

      body : IsWellFormedBody g p.0
      body = wf.bodies p.0 in_range

      -- a port of a position
      child_wide : (s : Side) (i : Inner) (m : ℕ) → IsAt m i.position (body_of g p.0) → i.port < width_on g m s → IsWide widths (child_port x.first_child s i)
      child_wide s i m at l =
          let low = at_below m i.position (body_of g p.0) at in
          let c = child_there g t run k there p by i.position low in
          let few : x.first_child + i.position < 2 ^ 32 = omega arith in
          let same : m ≡ (get_or t.instances (x.first_child + i.position) no_instance).module.0 = sym (at_is m i.position (body_of g p.0) 0 at) ∙ child_module g t run k there p by i.position low in
          subst (λ n. IsWide widths (record { instance = n; side = s; port = record { 0 = i.port } })) (sym (mod-eq_of_lt few))
          (wide (x.first_child + i.position) s i.port c (subst (λ z. i.port < width_on g z s) same l))

      abbrev AreBoth : Link → Type 0
      AreBoth l = IsWide widths l.from × IsWide widths l.to

      input_wide : (i : Inner) → IsInnerInput g p.0 i → IsWide widths (child_port x.first_child Input i)
      input_wide i h = child_wide Input i h.0 h.1 h.2

      output_wide : (i : Inner) → IsInnerOutput g p.0 i → IsWide widths (child_port x.first_child Output i)
      output_wide i h = child_wide Output i h.0 h.1 h.2

      own_input : (n : ℕ) → n < length (production_at g p.0).entries → IsWide widths (record { instance = k; side = Input; port = record { 0 = n } })
      own_input n h = wide k Input n there (subst (λ z. n < z) (body.one_entry_each ∙ ap (inputs_of g) (head_is g t run k there p by)) h)

      own_output : (n : ℕ) → n < length (production_at g p.0).exits → IsWide widths (record { instance = k; side = Output; port = record { 0 = n } })
      own_output n h = wide k Output n there (subst (λ z. n < z) (body.one_exit_each ∙ ap (outputs_of g) (head_is g t run k there p by)) h)

      entries_wide : (n : ℕ) (is : List Inner) → ((i : Inner) → IsIn i is → IsInnerInput g p.0 i) → n + length is ≤ length (production_at g p.0).entries → (l : Link) → IsIn l (entries_at k x.first_child n is) → AreBoth l
      entries_wide n [] h few l i = absurd i
      entries_wide n (i ∷ is) h few l (inl e) = let low : n < length (production_at g p.0).entries = omega arith in subst AreBoth (sym e) (own_input n low, input_wide i (h i (inl refl)))
      entries_wide n (i ∷ is) h few l (inr j) = let low : (n + 1) + length is ≤ length (production_at g p.0).entries = omega arith in entries_wide (n + 1) is (λ z q. h z (inr q)) low l j

      exits_wide : (n : ℕ) (is : List Inner) → ((i : Inner) → IsIn i is → IsInnerOutput g p.0 i) → n + length is ≤ length (production_at g p.0).exits → (l : Link) → IsIn l (exits_at k x.first_child n is) → AreBoth l
      exits_wide n [] h few l i = absurd i
      exits_wide n (i ∷ is) h few l (inl e) = let low : n < length (production_at g p.0).exits = omega arith in subst AreBoth (sym e) (output_wide i (h i (inl refl)), own_output n low)
      exits_wide n (i ∷ is) h few l (inr j) = let low : (n + 1) + length is ≤ length (production_at g p.0).exits = omega arith in exits_wide (n + 1) is (λ z q. h z (inr q)) low l j

      pub wiring_wide : AreWide widths (wiring_at k x.first_child (production_at g p.0))
      wiring_wide l h =
          let r = production_at g p.0 in
          ⊎_elim
          (λ a. let e = in_map_from (edge_at x.first_child) l r.edges a in subst AreBoth (sym e.2) (output_wide e.0.from (body.edges_from e.0 e.1), input_wide e.0.to (body.edges_to e.0 e.1)))
          (λ a. ⊎_elim
          (λ b. entries_wide 0 r.entries body.entries_to (omega arith) l b)
          (λ b. exits_wide 0 r.exits body.exits_from (omega arith) l b)
          (in_append_cases l (entries_at k x.first_child 0 r.entries) (exits_at k x.first_child 0 r.exits) a))
          (in_append_cases l (map (edge_at x.first_child) r.edges) (entries_at k x.first_child 0 r.entries ++ exits_at k x.first_child 0 r.exits) h)

    pub pairs_wide : (o : Option (List ℕ)) → AreWide widths (pairs_by g x.module.0 k o)
    pairs_wide None l h = absurd h
    pairs_wide (Some rows) l h =
        let r = pair_in k rows (outputs_of g x.module.0) (inputs_of g x.module.0) l h in
        let a = in_numbers r.0 0 (inputs_of g x.module.0) r.2 in
        let b = in_numbers r.1 0 (outputs_of g x.module.0) r.3 in
        let i : r.0 < inputs_of g x.module.0 = omega arith in
        let o : r.1 < outputs_of g x.module.0 = omega arith in
        subst (λ (z : Link). IsWide widths z.from × IsWide widths z.to) (sym r.5)
        (wide k Input r.0 there i, wide k Output r.1 there o)
