-- The package of a well-formed grammar is well-formed.
use Rattle.std.proofs.Common.{◌≡◌, ℕ, zero, suc, ◌+◌, ◌*◌, ◌≤◌, ◌<◌, List, [], ◌∷◌, ◌++◌, map, length, get_or, count_by, sum_by, refl, sym, ap, ◌∙◌, subst, inl, inr, ⊎_elim, arith}
use Rattle.std.proofs.lemmas.List.{length-map}
use Rattle.wf_model.specs.Lists.{IsIn, IsAt, AllDiffer, numbers_from}
use Rattle.wf_model.specs.Grammar.{Grammar, Module, Position, Production, Inner, Edge, Given, production_at, module_at, inputs_of, outputs_of, head_of, body_of, IsAtomic}
use Rattle.wf_model.specs.WellFormed.{IsShortName, IsInnerInput, IsInnerOutput, same_inner, IsFollowedBy, IsWellFormedBody, IsWellFormedModule, IsWellFormed}
use Rattle.wf_model.specs.View.{View, shows, IsSeenModule, at_start, in_body}
use Rattle.wf_model.specs.Finishing.{ExpandsComposites}
use Rattle.wf_model.proofs.Lists.{in_append_cases, in_map, at_in, is_at, at_is, at_below}
use Rattle.wf_model.proofs.Mapping.{at_map}
use Rattle.wf_model.proofs.NumberLists.{differ_few}
use Rattle.wf_laws.proofs.Safe.{walk_same}
use Rattle.label_model.proofs.Differing.{in_order_differ, differ-append}
use Rattle.package_model.specs.Shown.{AreSeen, place_in, ShownModule, ShownProduction, shown_module, shown_production}
use Rattle.package_model.specs.Packages.{numbered, numbered_names, package_module, package_modules, package_positions, package_production}
use Rattle.package_model.specs.Laws.{packaged}
use Rattle.package_model.proofs.Places.{place_again}
use Rattle.package_model.proofs.ShownPairs.{pairs_from, perceived_shut}
use Rattle.package_model.proofs.PackagePairs.{given_from}
use Rattle.package_model.proofs.NumberedNames.{name_good, names_differ, name_from}
use Rattle.package_model.proofs.Sums.{sum_map, sum_same, sum_at_places}
use Rattle.package_model.proofs.PackageParts.{length-named, count_modules, module_below, ins_same, outs_same, count, production_of, opened, head_at, body_at}
use Rattle.package_model.proofs.PackageBack.{body_back, shut_atomic}

ports_good : (letter n : ℕ) → 97 ≤ letter → letter ≤ 122 → n ≤ 64 → (name : List ℕ) → IsIn name (numbered_names letter n) → IsShortName name
ports_good letter n la lb h name i = let r = name_from letter n name i in subst IsShortName (sym r.2) (name_good letter r.0 la lb (omega (arith, r.1)))

module_formed : (k : ℕ) (t : ShownModule) → k < 1024 → t.ins ≤ 64 → t.outs ≤ 64 → IsWellFormedModule (package_module k t)
module_formed k t hk hi ho = record {
  name = name_good 109 k (omega arith) (omega arith) hk;
  ports = λ n h. ⊎_elim (ports_good 105 t.ins (omega arith) (omega arith) hi n) (ports_good 111 t.outs (omega arith) (omega arith) ho n) (in_append_cases n (numbered_names 105 t.ins) (numbered_names 111 t.outs) h);
  ports_differ = differ-append (numbered_names 105 t.ins) (numbered_names 111 t.outs) (names_differ 105 0 t.ins (omega arith)) (names_differ 111 0 t.outs (omega arith))
      (λ n a b. let x = name_from 105 t.ins n a in let y = name_from 111 t.outs n b in let q : ◌≡◌ {A = ℕ} 105 111 = ap (λ l. get_or l 0 0) (sym x.2 ∙ y.2) in absurd (omega arith));
  few_inputs = subst (λ z. z ≤ 64) (sym (length-named 105 t.ins)) hi;
  few_outputs = subst (λ z. z ≤ 64) (sym (length-named 111 t.outs)) ho;
}

modules_from : (c : ℕ) (ss : List ShownModule) (m : Module) → IsIn m (package_modules c ss) → (j : ℕ) × (t : ShownModule) × IsAt t j ss × (m ≡ package_module (c + j) t)
modules_from c [] m h = absurd h
modules_from c (t ∷ ss) m (inl e) = let z : c ≡ c + 0 = omega arith in (0, t, refl, e ∙ ap (λ k. package_module k t) z)
modules_from c (t ∷ ss) m (inr h) = let r = modules_from (suc c) ss m h in let z : suc c + r.0 ≡ c + suc r.0 = omega arith in (suc r.0, r.1, r.2, r.3 ∙ ap (λ k. package_module k r.1) z)

modules_names : (c : ℕ) (ss : List ShownModule) → map (λ (m : Module). m.name) (package_modules c ss) ≡ map (numbered 109) (numbers_from c (length ss))
modules_names c [] = refl
modules_names c (t ∷ ss) = ap (λ l. numbered 109 c ∷ l) (modules_names (suc c) ss)

positions_names : (c : ℕ) (ms : List ℕ) → map (λ (q : Position). q.name) (package_positions c ms) ≡ map (numbered 112) (numbers_from c (length ms))
positions_names c [] = refl
positions_names c (m ∷ ms) = ap (λ l. numbered 112 c ∷ l) (positions_names (suc c) ms)

positions_count : (c : ℕ) (ms : List ℕ) → length (package_positions c ms) ≡ length ms
positions_count c [] = refl
positions_count c (m ∷ ms) = ap suc (positions_count (suc c) ms)

-- what stands at a place of images is an image
at_map_from : {A : Type 0} (f : ℕ → A) (y : A) (j : ℕ) (ms : List ℕ) → IsAt y j (map f ms) → (m : ℕ) × IsAt m j ms × (y ≡ f m)
at_map_from f y j [] q = absurd q
at_map_from f y zero (k ∷ ms) q = (k, refl, q)
at_map_from f y (suc j) (k ∷ ms) q = at_map_from f y j ms q

module _ (g : Grammar) (u : View) (ms ps : List ℕ) (ec : ExpandsComposites g u) (s : AreSeen g u ms ps) (wf : IsWellFormed g) where
  numbered_formed : (m : ℕ) → m < length g.modules → (m < length g.modules) × IsWellFormedModule (module_at g m)
  numbered_formed m h = (h, wf.modules (module_at g m) (at_in (module_at g m) m g.modules (is_at m g.modules (record { name = []; inputs = []; outputs = [] }) h)))

  -- a seen module is one of the grammar's, and well-formed
  module_of : (m : ℕ) → IsSeenModule g u m → (m < length g.modules) × IsWellFormedModule (module_at g m)
  module_of m (at_start e) = numbered_formed m (subst (λ z. z < length g.modules) (sym e) wf.start)
  module_of m (in_body p hp sm ex h) = numbered_formed m ((wf.bodies p hp).modules m h)

  pub few_seen : length ms ≤ 1024
  few_seen = let a = differ_few (length g.modules) ms (in_order_differ ms s.modules_in_order) (λ m h. (module_of m ((s.modules m).0 h)).0) in let b = wf.few_modules in omega arith

  few_open : length ps ≤ 1024
  few_open = let a = differ_few (length g.productions) ps (in_order_differ ps s.productions_in_order) (λ p h. ((s.productions p).0 h).0) in let b = wf.few_productions in omega arith

  -- what is shown at a place is that of a seen module
  pub module_from : (j : ℕ) (t : ShownModule) → IsAt t j (map (shown_module g u ps) ms) → (m : ℕ) × IsSeenModule g u m × (j < length ms) × (t ≡ shown_module g u ps m) × (place_in ms m ≡ j)
  module_from j t h =
      let r = at_map_from (shown_module g u ps) t j ms h in
      let l = at_below r.0 j ms r.1 in
      (r.0, (s.modules r.0).0 (at_in r.0 j ms r.1), l, r.2, ap (place_in ms) (sym (at_is r.0 j ms 0 r.1)) ∙ place_again ms j (in_order_differ ms s.modules_in_order) l)

  module _ (q : ℕ) (hq : q < length ps) where
    inside : (j m : ℕ) → IsAt m j (body_of g (get_or ps q 0)) → IsSeenModule g u m
    inside j m h = let o = opened g u ms ps ec s q hq in in_body (get_or ps q 0) o.0 o.1 o.2 (at_in m j (body_of g (get_or ps q 0)) h)

    placed_body : (j m : ℕ) → IsAt m j (body_of g (get_or ps q 0)) → IsAt (place_in ms m) j (body_of (packaged g u ms ps) q)
    placed_body j m h = subst (IsAt (place_in ms m) j) (sym (body_at g u ms ps ec s q hq)) (at_map (place_in ms) m j (body_of g (get_or ps q 0)) h)

    body_from : (j k : ℕ) → IsAt k j (body_of (packaged g u ms ps) q) → (m : ℕ) × IsAt m j (body_of g (get_or ps q 0)) × (k ≡ place_in ms m)
    body_from j k h = at_map_from (place_in ms) k j (body_of g (get_or ps q 0)) (subst (IsAt k j) (body_at g u ms ps ec s q hq) h)

    input_up : (i : Inner) → IsInnerInput g (get_or ps q 0) i → IsInnerInput (packaged g u ms ps) q i
    input_up i h = (place_in ms h.0, placed_body i.position h.0 h.1, subst (λ z. i.port < z) (sym (ins_same g u ms ps ec s h.0 (inside i.position h.0 h.1))) h.2)

    output_up : (i : Inner) → IsInnerOutput g (get_or ps q 0) i → IsInnerOutput (packaged g u ms ps) q i
    output_up i h = (place_in ms h.0, placed_body i.position h.0 h.1, subst (λ z. i.port < z) (sym (outs_same g u ms ps ec s h.0 (inside i.position h.0 h.1))) h.2)

    input_back : (i : Inner) → IsInnerInput (packaged g u ms ps) q i → IsInnerInput g (get_or ps q 0) i
    input_back i h = let r = body_from i.position h.0 h.1 in (r.0, r.1, subst (λ z. i.port < z) (ap (inputs_of (packaged g u ms ps)) r.2 ∙ ins_same g u ms ps ec s r.0 (inside i.position r.0 r.1)) h.2)

    output_back : (i : Inner) → IsInnerOutput (packaged g u ms ps) q i → IsInnerOutput g (get_or ps q 0) i
    output_back i h = let r = body_from i.position h.0 h.1 in (r.0, r.1, subst (λ z. i.port < z) (ap (outputs_of (packaged g u ms ps)) r.2 ∙ outs_same g u ms ps ec s r.0 (inside i.position r.0 r.1)) h.2)

    few_here : length (map (place_in ms) (body_of g (get_or ps q 0))) ≤ 64
    few_here = subst (λ z. z ≤ 64) (sym (length-map (body_of g (get_or ps q 0)) (place_in ms))) (wf.few_positions (get_or ps q 0) (opened g u ms ps ec s q hq).0)

    body_formed : IsWellFormedBody (packaged g u ms ps) q
    body_formed =
        let o = opened g u ms ps ec s q hq in
        let wb = wf.bodies (get_or ps q 0) o.0 in
        let pr : production_at (packaged g u ms ps) q ≡ package_production (shown_production g ms (get_or ps q 0)) = production_of g u ms ps ec s q hq in
        let ba = body_at g u ms ps ec s q hq in
        let hd = head_at g u ms ps ec s q hq in
        let body : List ℕ = map (place_in ms) (body_of g (get_or ps q 0)) in
        let few = few_here in
        let follow : (a b : ℕ) → IsFollowedBy (packaged g u ms ps) q a b → IsFollowedBy g (get_or ps q 0) a b = λ a b f. (f.0, subst (λ (z : Production). IsIn f.0 z.edges) pr f.1, f.2, f.3) in
        record {
          some_position = subst (λ l. 0 < length l) (sym ba) (subst (λ z. 0 < z) (sym (length-map (body_of g (get_or ps q 0)) (place_in ms))) wb.some_position);
          modules = λ k h. let r = body_back g u ms ps ec s q hq k h in subst (λ z. z < length (packaged g u ms ps).modules) (sym r.3) (module_below g u ms ps ec s r.0 r.1);
          names = λ z h.
              let h2 = subst (λ (w : Production). IsIn z w.positions) pr h in
              let h3 = subst (IsIn z.name) (positions_names 0 body) (in_map (λ (w : Position). w.name) z (package_positions 0 body) h2) in
              let r = name_from 112 (length body) z.name h3 in
              subst IsShortName (sym r.2) (name_good 112 r.0 (omega arith) (omega arith) (omega (arith, r.1, few)));
          names_differ = subst (λ (w : Production). AllDiffer (map (λ (z : Position). z.name) w.positions)) (sym pr) (subst AllDiffer (sym (positions_names 0 body)) (names_differ 112 0 (length body) (omega arith)));
          edges_from = λ e h. output_up e.from (wb.edges_from e (subst (λ (w : Production). IsIn e w.edges) pr h));
          edges_to = λ e h. input_up e.to (wb.edges_to e (subst (λ (w : Production). IsIn e w.edges) pr h));
          entries_to = λ i h. input_up i (wb.entries_to i (subst (λ (w : Production). IsIn i w.entries) pr h));
          exits_from = λ i h. output_up i (wb.exits_from i (subst (λ (w : Production). IsIn i w.exits) pr h));
          one_entry_each = ap (λ (w : Production). length w.entries) pr ∙ (wb.one_entry_each ∙ (sym (ins_same g u ms ps ec s (head_of g (get_or ps q 0)) o.1) ∙ ap (inputs_of (packaged g u ms ps)) (sym hd)));
          one_exit_each = ap (λ (w : Production). length w.exits) pr ∙ (wb.one_exit_each ∙ (sym (outs_same g u ms ps ec s (head_of g (get_or ps q 0)) o.1) ∙ ap (outputs_of (packaged g u ms ps)) (sym hd)));
          fed_once = λ i h. ap (λ (w : Production). count_by (same_inner i) (map (λ (e : Edge). e.to) w.edges ++ w.entries)) pr ∙ wb.fed_once i (input_back i h);
          used_once = λ i h. ap (λ (w : Production). count_by (same_inner i) (map (λ (e : Edge). e.from) w.edges ++ w.exits)) pr ∙ wb.used_once i (output_back i h);
          acyclic = λ a b f w. wb.acyclic a b (follow a b f) (walk_same follow w);
        }

  abbrev square : Production → ℕ
  square r = length r.positions * length r.positions

  one_size : (p : ℕ) → square (package_production (shown_production g ms p)) ≡ square (production_at g p)
  one_size p =
      ap (λ z. z * z) (positions_count 0 (map (place_in ms) (body_of g p)) ∙ (length-map (body_of g p) (place_in ms) ∙ length-map (production_at g p).positions (λ (z : Position). z.module_no)))

  small : sum_by (λ (r : Production). length r.positions * length r.positions) (packaged g u ms ps).productions ≤ 65536
  small =
      let a = sum_map square package_production (map (shown_production g ms) ps) in
      let b = sum_map (λ (t : ShownProduction). square (package_production t)) (shown_production g ms) ps in
      let c = sum_same (λ p. square (package_production (shown_production g ms p))) (λ p. square (production_at g p)) ps one_size in
      let d = sum_at_places square g.productions (record { head = 0; positions = []; edges = []; entries = []; exits = [] }) ps (in_order_differ ps s.productions_in_order) (λ p h. ((s.productions p).0 h).0) in
      subst (λ z. z ≤ 65536) (sym (a ∙ (b ∙ c))) (within d wf.small)
    where
      within : {x y : ℕ} → x ≤ y → y ≤ 65536 → x ≤ 65536
      within h l = omega arith

  pub package_formed : IsWellFormed (packaged g u ms ps)
  package_formed =
      let shown : List ShownModule = map (shown_module g u ps) ms in
      let cm : length (packaged g u ms ps).modules ≡ length ms = count_modules g u ms ps ec s in
      let cp : length (packaged g u ms ps).productions ≡ length ps = count g u ms ps ec s in
      let lm : length shown ≡ length ms = length-map ms (shown_module g u ps) in
      let few = few_seen in
      record {
        start = module_below g u ms ps ec s g.start (at_start refl);
        modules = λ m h.
            let r = modules_from 0 shown m h in
            let a = module_from r.0 r.1 r.2 in
            let w = (module_of a.0 a.1).1 in
            let l : r.0 < length ms = a.2 in
            subst IsWellFormedModule (sym r.3) (module_formed (0 + r.0) r.1 (omega arith) (subst (λ (z : ShownModule). z.ins ≤ 64) (sym a.3) w.few_inputs) (subst (λ (z : ShownModule). z.outs ≤ 64) (sym a.3) w.few_outputs));
        names_differ = subst AllDiffer (sym (modules_names 0 shown)) (names_differ 109 0 (length shown) (omega arith));
        few_modules = subst (λ z. z ≤ 1024) (sym cm) few_seen;
        few_productions = subst (λ z. z ≤ 1024) (sym cp) few_open;
        few_positions = λ q h. let hq = subst (λ z. q < z) cp h in subst (λ l. length l ≤ 64) (sym (body_at g u ms ps ec s q hq)) (few_here q hq);
        small = small;
        heads = λ q h. let hq = subst (λ z. q < z) cp h in let o = opened g u ms ps ec s q hq in subst (λ z. z < length (packaged g u ms ps).modules) (sym (head_at g u ms ps ec s q hq)) (module_below g u ms ps ec s (head_of g (get_or ps q 0)) o.1);
        bodies = λ q h. body_formed q (subst (λ z. q < z) cp h);
        given_atomic = λ d h.
            let r = given_from 0 shown d h in
            let a = module_from r.0 r.1 r.3 in
            let ed : d.module_no ≡ r.0 = ap (λ (z : Given). z.module_no) r.5 ∙ (let z : 0 + r.0 ≡ r.0 = omega arith in z) in
            let ex = (perceived_shut g u a.0 r.2 (ap (λ (z : ShownModule). z.pairs) (sym a.3) ∙ r.4)).0 in
            (subst (λ z. z < length (packaged g u ms ps).modules) (sym ed) (subst (λ z. r.0 < z) (sym cm) a.2), subst (IsAtomic (packaged g u ms ps)) (a.4 ∙ sym ed) (shut_atomic g u ms ps ec s a.0 a.1 ex));
        given_pairs = λ d e h k.
            let r = given_from 0 shown d h in
            let a = module_from r.0 r.1 r.3 in
            let ed : d.module_no ≡ r.0 = ap (λ (z : Given). z.module_no) r.5 ∙ (let z : 0 + r.0 ≡ r.0 = omega arith in z) in
            let ep = (perceived_shut g u a.0 r.2 (ap (λ (z : ShownModule). z.pairs) (sym a.3) ∙ r.4)).1 in
            let q = pairs_from (inputs_of g a.0) (outputs_of g a.0) (shows u a.0) e (subst (IsIn e) (ap (λ (z : Given). z.pairs) r.5 ∙ ep) k) in
            let ei : inputs_of (packaged g u ms ps) d.module_no ≡ inputs_of g a.0 = ap (inputs_of (packaged g u ms ps)) (ed ∙ sym a.4) ∙ ins_same g u ms ps ec s a.0 a.1 in
            let eo : outputs_of (packaged g u ms ps) d.module_no ≡ outputs_of g a.0 = ap (outputs_of (packaged g u ms ps)) (ed ∙ sym a.4) ∙ outs_same g u ms ps ec s a.0 a.1 in
            (subst (λ z. e.0 < z) (sym ei) q.0, subst (λ z. e.1 < z) (sym eo) q.1);
      }
