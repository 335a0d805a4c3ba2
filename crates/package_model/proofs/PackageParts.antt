-- The modules and productions of a package: all that a view shows stands in it, by place.
use Rattle.std.proofs.Common.{◌≡◌, ℕ, zero, suc, ◌+◌, ◌<◌, true, false, List, [], ◌∷◌, ◌++◌, map, length, get_or, refl, sym, ap, ◌∙◌, subst, arith}
use Rattle.std.proofs.lemmas.List.{length-map}
use Rattle.std.specs.Cmp.Derive.{one_truth}
use Rattle.wf_model.specs.Lists.{IsAt, numbers_from}
use Rattle.wf_model.specs.Grammar.{Grammar, Module, Position, Production, production_at, module_at, inputs_of, outputs_of, head_of, body_of}
use Rattle.wf_model.specs.View.{View, expands, shows, IsSeenModule}
use Rattle.wf_model.specs.DefaultView.{default_view}
use Rattle.wf_model.specs.Links.{edge_link, entry_links, exit_links, wiring}
use Rattle.wf_model.specs.Finishing.{ExpandsComposites}
use Rattle.wf_model.proofs.Lists.{at_in, is_at, at_is}
use Rattle.wf_model.proofs.Mapping.{at_map}
use Rattle.wf_model.proofs.NumberLists.{length-numbers}
use Rattle.wf_model.proofs.DefaultView.{default_expands_all, default_expands_composites, default_shows}
use Rattle.version_model.specs.Standing.{IsSameProduction, StandsIn}
use Rattle.package_model.specs.Shown.{IsOpenProduction, AreSeen, place_in, ShownModule, pairs_within, shown_module, shown_production}
use Rattle.package_model.specs.Packages.{numbered, numbered_names, package_module, package_modules, package_positions, package_production}
use Rattle.package_model.specs.Laws.{packaged}
use Rattle.package_model.proofs.Places.{IsPlaced, placed, placed_at}
use Rattle.package_model.proofs.ShownPairs.{pair_within, shut_perceived}
use Rattle.package_model.proofs.PackagePairs.{given_at}

pub length-named : (letter n : ℕ) → length (numbered_names letter n) ≡ n
length-named letter n = length-map (numbers_from 0 n) (numbered letter) ∙ length-numbers 0 n

-- the module at a place
pub module_there : (c j : ℕ) (ss : List ShownModule) (s : ShownModule) → IsAt s j ss → IsAt (package_module (c + j) s) j (package_modules c ss)
module_there c j [] s h = absurd h
module_there c zero (t ∷ ss) s h = let e : c + 0 ≡ c = omega arith in ap (λ k. package_module k s) e ∙ ap (package_module c) h
module_there c (suc j) (t ∷ ss) s h = let e : suc c + j ≡ c + suc j = omega arith in subst (λ k. IsAt (package_module k s) j (package_modules (suc c) ss)) e (module_there (suc c) j ss s h)

pub modules_count : (c : ℕ) (ss : List ShownModule) → length (package_modules c ss) ≡ length ss
modules_count c [] = refl
modules_count c (s ∷ ss) = ap suc (modules_count (suc c) ss)

pub positions_modules : (c : ℕ) (ms : List ℕ) → map (λ (q : Position). q.module_no) (package_positions c ms) ≡ ms
positions_modules c [] = refl
positions_modules c (m ∷ ms) = ap (λ l. m ∷ l) (positions_modules (suc c) ms)

module _ (g : Grammar) (u : View) (ms ps : List ℕ) (ec : ExpandsComposites g u) (s : AreSeen g u ms ps) where
  pub seen_placed : (m : ℕ) → IsSeenModule g u m → IsPlaced ms m
  seen_placed m sm = placed ms m ((s.modules m).1 sm)

  pub found : (m : ℕ) → IsSeenModule g u m → get_or ms (place_in ms m) 0 ≡ m
  found m sm = (seen_placed m sm).is

  pub one_place : (m n : ℕ) → IsSeenModule g u m → IsSeenModule g u n → place_in ms m ≡ place_in ms n → m ≡ n
  one_place m n sm sn e = sym (found m sm) ∙ (ap (λ z. get_or ms z 0) e ∙ found n sn)

  pub shown_there : (m : ℕ) → IsSeenModule g u m → IsAt (shown_module g u ps m) (place_in ms m) (map (shown_module g u ps) ms)
  shown_there m sm = at_map (shown_module g u ps) m (place_in ms m) ms (placed_at ms m ((s.modules m).1 sm))

  pub count_modules : length (packaged g u ms ps).modules ≡ length ms
  count_modules = modules_count 0 (map (shown_module g u ps) ms) ∙ length-map ms (shown_module g u ps)

  pub module_below : (m : ℕ) → IsSeenModule g u m → place_in ms m < length (packaged g u ms ps).modules
  module_below m sm = subst (λ z. place_in ms m < z) (sym count_modules) (seen_placed m sm).below

  pub module_is : (m : ℕ) → IsSeenModule g u m → module_at (packaged g u ms ps) (place_in ms m) ≡ package_module (place_in ms m) (shown_module g u ps m)
  module_is m sm =
      let z : 0 + place_in ms m ≡ place_in ms m = omega arith in
      at_is (package_module (0 + place_in ms m) (shown_module g u ps m)) (place_in ms m) (packaged g u ms ps).modules (record { name = []; inputs = []; outputs = [] })
      (module_there 0 (place_in ms m) (map (shown_module g u ps) ms) (shown_module g u ps m) (shown_there m sm)) ∙ ap (λ k. package_module k (shown_module g u ps m)) z

  pub ins_same : (m : ℕ) → IsSeenModule g u m → inputs_of (packaged g u ms ps) (place_in ms m) ≡ inputs_of g m
  ins_same m sm = ap (λ (z : Module). length z.inputs) (module_is m sm) ∙ length-named 105 (inputs_of g m)

  pub outs_same : (m : ℕ) → IsSeenModule g u m → outputs_of (packaged g u ms ps) (place_in ms m) ≡ outputs_of g m
  outs_same m sm = ap (λ (z : Module). length z.outputs) (module_is m sm) ∙ length-named 111 (outputs_of g m)

  -- the production at a place
  pub count : length (packaged g u ms ps).productions ≡ length ps
  count = length-map (map (shown_production g ms) ps) package_production ∙ length-map ps (shown_production g ms)

  pub production_of : (q : ℕ) → q < length ps → production_at (packaged g u ms ps) q ≡ package_production (shown_production g ms (get_or ps q 0))
  production_of q hq =
      at_is (package_production (shown_production g ms (get_or ps q 0))) q (packaged g u ms ps).productions (record { head = 0; positions = []; edges = []; entries = []; exits = [] })
      (at_map package_production (shown_production g ms (get_or ps q 0)) q (map (shown_production g ms) ps) (at_map (shown_production g ms) (get_or ps q 0) q ps (is_at q ps 0 hq)))

  pub opened : (q : ℕ) → q < length ps → IsOpenProduction g u (get_or ps q 0)
  opened q hq = (s.productions (get_or ps q 0)).0 (at_in (get_or ps q 0) q ps (is_at q ps 0 hq))

  pub head_at : (q : ℕ) → q < length ps → head_of (packaged g u ms ps) q ≡ place_in ms (head_of g (get_or ps q 0))
  head_at q hq = ap (λ (r : Production). r.head) (production_of q hq)

  pub body_at : (q : ℕ) → q < length ps → body_of (packaged g u ms ps) q ≡ map (place_in ms) (body_of g (get_or ps q 0))
  body_at q hq = ap (λ (r : Production). map (λ (z : Position). z.module_no) r.positions) (production_of q hq) ∙ positions_modules 0 (map (place_in ms) (body_of g (get_or ps q 0)))

  pub wired_at : (q : ℕ) → q < length ps → wiring (packaged g u ms ps) q ≡ wiring g (get_or ps q 0)
  wired_at q hq = ap (λ (r : Production). map edge_link r.edges ++ (entry_links 0 r.entries ++ exit_links 0 r.exits)) (production_of q hq)

  pub open_placed : (p : ℕ) → IsOpenProduction g u p → IsPlaced ps p
  open_placed p sp = placed ps p ((s.productions p).1 sp)

  pub same_production : (p : ℕ) → IsOpenProduction g u p → IsSameProduction g p (packaged g u ms ps) (place_in ps p) (place_in ms)
  same_production p sp =
      let pl = open_placed p sp in
      record {
        in_range = subst (λ z. place_in ps p < z) (sym count) pl.below;
        head = head_at (place_in ps p) pl.below ∙ ap (λ z. place_in ms (head_of g z)) pl.is;
        body = body_at (place_in ps p) pl.below ∙ ap (λ z. map (place_in ms) (body_of g z)) pl.is;
        wired = wired_at (place_in ps p) pl.below ∙ ap (wiring g) pl.is;
      }

  pub expanded_same : (m : ℕ) → IsSeenModule g u m → expands (default_view (packaged g u ms ps)) (place_in ms m) ≡ expands u m
  expanded_same m sm = one_truth (expands (default_view (packaged g u ms ps)) (place_in ms m)) (expands u m) there back
    where
      there : expands (default_view (packaged g u ms ps)) (place_in ms m) ≡ true → expands u m ≡ true
      there h =
          let c = default_expands_composites (packaged g u ms ps) (place_in ms m) h in
          let l : c.0 < length ps = subst (λ z. c.0 < z) count c.1.0 in
          let o = opened c.0 l in
          ap (expands u) (sym (one_place (head_of g (get_or ps c.0 0)) m o.1 sm (sym (head_at c.0 l) ∙ c.1.1))) ∙ o.2

      back : expands u m ≡ true → expands (default_view (packaged g u ms ps)) (place_in ms m) ≡ true
      back ex =
          let c = ec m ex in
          let same = same_production c.0 (c.1.0, subst (IsSeenModule g u) (sym c.1.1) sm, ap (expands u) c.1.1 ∙ ex) in
          default_expands_all (packaged g u ms ps) (place_in ms m) (place_in ps c.0, (same.in_range, same.head ∙ ap (place_in ms) c.1.1))

  pub shown_same : (m : ℕ) → IsSeenModule g u m → expands u m ≡ false → (i o : ℕ) → i < inputs_of g m → o < outputs_of g m → shows (default_view (packaged g u ms ps)) (place_in ms m) i o ≡ shows u m i o
  shown_same m sm ex i o hi ho =
      default_shows (packaged g u ms ps) (place_in ms m) i o (module_below m sm) (subst (λ w. i < w) (sym (ins_same m sm)) hi) (subst (λ w. o < w) (sym (outs_same m sm)) ho) ∙
      (given_at 0 (place_in ms m) (place_in ms m) (omega arith) (map (shown_module g u ps) ms) (shown_module g u ps m) (pairs_within (inputs_of g m) (outputs_of g m) (shows u m)) (shown_there m sm) (shut_perceived g u m ex) i o hi ho ∙
      pair_within (inputs_of g m) (outputs_of g m) (shows u m) i o hi ho)

  pub package_stands : StandsIn g u (packaged g u ms ps) (default_view (packaged g u ms ps)) (place_in ms) (place_in ps)
  package_stands = record {
    start = refl;
    ins = ins_same;
    outs = outs_same;
    expanded = expanded_same;
    shown = shown_same;
    productions = λ p hp sp ex. same_production p (hp, sp, ex);
  }
