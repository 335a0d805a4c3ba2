-- Two grammars whose views show the same: one stands in the other, place by place.
use Rattle.std.proofs.Common.{◌≡◌, ℕ, zero, suc, ◌<◌, false, List, [], ◌∷◌, ◌++◌, map, length, get_or, refl, sym, ap, ◌∙◌, inl, inr, arith}
use Rattle.std.proofs.lemmas.List.{length-map}
use Rattle.wf_model.specs.Lists.{IsIn}
use Rattle.wf_model.specs.Grammar.{Grammar, inputs_of, outputs_of, head_of, body_of}
use Rattle.wf_model.specs.View.{View, expands, shows, IsSeenModule, at_start, in_body}
use Rattle.wf_model.specs.Links.{edge_link, entry_links, exit_links}
use Rattle.wf_model.proofs.Lists.{at_in, is_at}
use Rattle.version_model.specs.Standing.{IsSameProduction, StandsIn}
use Rattle.version_model.proofs.Standing.{standing_law}
use Rattle.package_model.specs.Shown.{IsOpenProduction, AreSeen, place_in, ShownModule, ShownProduction, Shown, pairs_within, perceived, shown_module, shown_production, shown_of}
use Rattle.package_model.specs.Laws.{ShownLaw}
use Rattle.package_model.proofs.Places.{placed}
use Rattle.package_model.proofs.ShownPairs.{same_tests, shut_perceived, perceived_shut, perceived_alike}

-- of equal lists of images, the images at one place are equal
images_at : {A : Type 0} (f h : ℕ → A) (xs ys : List ℕ) → map f xs ≡ map h ys → (k : ℕ) → k < length xs → f (get_or xs k 0) ≡ h (get_or ys k 0)
images_at f h [] ys e k l = absurd (omega arith)
images_at f h (x ∷ xs) [] e k l = absurd (cc)
images_at {A} f h (x ∷ xs) (y ∷ ys) e zero l = let q : f x ≡ h y = cc in q
images_at {A} f h (x ∷ xs) (y ∷ ys) e (suc k) l = let q : map f xs ≡ map h ys = cc in let l2 : k < length xs = omega arith in images_at f h xs ys q k l2

images_length : {A : Type 0} (f h : ℕ → A) (xs ys : List ℕ) → map f xs ≡ map h ys → length xs ≡ length ys
images_length f h xs ys e = sym (length-map xs f) ∙ (ap length e ∙ length-map ys h)

module _ (g h : Grammar) (u w : View) (ms ps ns qs : List ℕ) (s : AreSeen g u ms ps) (t : AreSeen h w ns qs) (e : shown_of g u ms ps ≡ shown_of h w ns qs) where
  abbrev to : ℕ → ℕ
  to m = get_or ns (place_in ms m) 0

  abbrev by : ℕ → ℕ
  by p = get_or qs (place_in ps p) 0

  same_module : (m : ℕ) → IsSeenModule g u m → shown_module g u ps m ≡ shown_module h w qs (to m)
  same_module m sm =
      let p = placed ms m ((s.modules m).1 sm) in
      ap (shown_module g u ps) (sym p.is) ∙ images_at (shown_module g u ps) (shown_module h w qs) ms ns (ap (λ (z : Shown). z.modules) e) (place_in ms m) p.below

  same_shown : (p : ℕ) → IsOpenProduction g u p → shown_production g ms p ≡ shown_production h ns (by p)
  same_shown p sp =
      let q = placed ps p ((s.productions p).1 sp) in
      ap (shown_production g ms) (sym q.is) ∙ images_at (shown_production g ms) (shown_production h ns) ps qs (ap (λ (z : Shown). z.productions) e) (place_in ps p) q.below

  -- a module of the second grammar is found again by its place
  found : (n : ℕ) → IsSeenModule h w n → get_or ns (place_in ns n) 0 ≡ n
  found n sn = (placed ns n ((t.modules n).1 sn)).is

  found_all : (ks : List ℕ) → ((n : ℕ) → IsIn n ks → IsSeenModule h w n) → map (λ j. get_or ns j 0) (map (place_in ns) ks) ≡ ks
  found_all [] k = refl
  found_all (j ∷ js) k = ap (λ z. z ∷ map (λ j. get_or ns j 0) (map (place_in ns) js)) (found j (k j (inl refl))) ∙ ap (λ z. j ∷ z) (found_all js (λ n q. k n (inr q)))

  each : (ks : List ℕ) → map (λ j. get_or ns j 0) (map (place_in ms) ks) ≡ map to ks
  each [] = refl
  each (j ∷ js) = ap (λ z. to j ∷ z) (each js)

  open_too : (p : ℕ) → IsOpenProduction g u p → IsOpenProduction h w (by p)
  open_too p sp =
      let q = placed ps p ((s.productions p).1 sp) in
      let l : place_in ps p < length qs = omega (arith, images_length (shown_production g ms) (shown_production h ns) ps qs (ap (λ (z : Shown). z.productions) e), q.below) in
      (t.productions (by p)).0 (at_in _ (place_in ps p) qs (is_at (place_in ps p) qs 0 l))

  same_production : (p : ℕ) → IsOpenProduction g u p → IsSameProduction g p h (by p) to
  same_production p sp =
      let o = open_too p sp in
      let ep = sym (same_shown p sp) in
      record {
        in_range = o.0;
        head = sym (found (head_of h (by p)) o.1) ∙ ap (λ (z : ShownProduction). get_or ns z.head 0) ep;
        body = sym (found_all (body_of h (by p)) (λ n k. in_body (by p) o.0 o.1 o.2 k)) ∙ (ap (λ (z : ShownProduction). map (λ j. get_or ns j 0) z.body) ep ∙ each (body_of g p));
        wired = ap (λ (z : ShownProduction). map edge_link z.edges ++ (entry_links 0 z.entries ++ exit_links 0 z.exits)) ep;
      }

  same_ins : (m : ℕ) → IsSeenModule g u m → inputs_of h (to m) ≡ inputs_of g m
  same_ins m sm = ap (λ (z : ShownModule). z.ins) (sym (same_module m sm))

  same_outs : (m : ℕ) → IsSeenModule g u m → outputs_of h (to m) ≡ outputs_of g m
  same_outs m sm = ap (λ (z : ShownModule). z.outs) (sym (same_module m sm))

  same_perceived : (m : ℕ) → IsSeenModule g u m → perceived g u m ≡ perceived h w (to m)
  same_perceived m sm = ap (λ (z : ShownModule). z.pairs) (same_module m sm)

  shown_same : (m : ℕ) → IsSeenModule g u m → expands u m ≡ false → (i o : ℕ) → i < inputs_of g m → o < outputs_of g m → shows w (to m) i o ≡ shows u m i o
  shown_same m sm ex i o hi ho =
      let q = (perceived_shut h w (to m) _ (sym (same_perceived m sm) ∙ shut_perceived g u m ex)).1 in
      same_tests (inputs_of g m) (outputs_of g m) (shows u m) (shows w (to m))
      (q ∙ (ap (λ z. pairs_within z (outputs_of h (to m)) (shows w (to m))) (same_ins m sm) ∙ ap (λ z. pairs_within (inputs_of g m) z (shows w (to m))) (same_outs m sm))) i o hi ho

  pub shown_stands : StandsIn g u h w to by
  shown_stands = record {
    start = sym (found h.start (at_start refl)) ∙ ap (λ (z : Shown). get_or ns z.start 0) (sym e);
    ins = same_ins;
    outs = same_outs;
    expanded = λ m sm. perceived_alike g h u w m (to m) (same_perceived m sm);
    shown = shown_same;
    productions = λ p hp sp ex. same_production p (hp, sp, ex);
  }

pub shown_law : ShownLaw
shown_law g h u w ms ps ns qs proper ec s t e = standing_law g u h w (λ m. get_or ns (place_in ms m) 0) (λ p. get_or qs (place_in ps p) 0) proper ec (shown_stands g h u w ms ps ns qs s t e)
