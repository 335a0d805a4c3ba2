-- Two labels have by the package of a safe view the verdict that they have under the view.
use Rattle.std.proofs.Common.{◌≡◌, ◌↔◌, ◌⊎◌, ℕ, List, get_or, refl, sym, subst, inl, inr, ⊎_elim}
use Rattle.wf_model.specs.Grammar.{Grammar, Assignment}
use Rattle.wf_model.specs.WellFormed.{IsWellFormed}
use Rattle.wf_model.specs.Proper.{IsProper}
use Rattle.wf_model.specs.Linear.{IsLinear}
use Rattle.wf_model.specs.View.{View}
use Rattle.wf_model.specs.DefaultView.{default_view}
use Rattle.wf_model.specs.Safe.{IsSafe, IsInduced}
use Rattle.wf_model.specs.Finishing.{ExpandsComposites}
use Rattle.wf_model.specs.Reach.{Reaches}
use Rattle.wf_model.proofs.DefaultView.{default_expands_composites}
use Rattle.wf_laws.proofs.Full.{full_law, safe_full_law}
use Rattle.bit_pack.specs.Bits.{Holds}
use Rattle.label_model.specs.Labels.{Label, Input, Output, label_bits, IsLabel}
use Rattle.verdict_model.specs.declared.verdict.Verdict.{Verdict}
use Rattle.verdict_model.specs.declared.verdict.Verdict.TheVariants.{Hidden1, Hidden2, Clash, Yes, No}
use Rattle.verdict_model.specs.Laws.{IsAnswered}
use Rattle.verdict_model.specs.Verdicts.{IsHidden, AreShown, AreClashing, AlwaysDepends, IsVerdict}
use Rattle.verdict_model.proofs.Answering.{answer_induced}
use Rattle.verdict_model.proofs.Clashing.{either_law}
use Rattle.verdict_model.proofs.SomeVerdict.{some_verdict}
use Rattle.version_model.specs.Standing.{renumbered}
use Rattle.package_model.specs.Shown.{AreSeen, place_in, shown_of}
use Rattle.package_model.specs.Packages.{loop_of}
use Rattle.package_model.specs.Translating.{Translation, Inside, Outside, TranslatesTo}
use Rattle.package_model.specs.Consulting.{IsTold}
use Rattle.package_model.specs.Laws.{packaged}
use Rattle.package_model.specs.TranslationLaws.{TellsByPlace, ConsultLaw}
use Rattle.package_model.proofs.DefaultShows.{default_hides_none}
use Rattle.package_model.proofs.PackageLaws.{package_law}
use Rattle.package_model.proofs.SameEndpoints.{IsConsumed, IsProduced, clash_up, clash_back, consumed_or_output, produced_or_input, ends_agree}
use Rattle.package_model.proofs.Translations.{one_translation, shown_inside, hidden_outside}

module _ (g : Grammar) (u : View) (ms ps : List ℕ) (wf : IsWellFormed g) (proper : IsProper g) (linear : IsLinear g) (ec : ExpandsComposites g u) (safe : IsSafe g u) (s : AreSeen g u ms ps) where
  abbrev pack : Grammar
  pack = packaged g u ms ps

  abbrev whole : View
  whole = default_view pack

  one_induced : (d : Assignment) × IsInduced g u d
  one_induced = let full = safe_full_law g u wf proper ec safe in (full.0, (full_law g u full.0 wf proper ec).0 full.1)

  induced_up : (d : Assignment) → IsInduced g u d → IsInduced pack whole (λ k. d (get_or ms k 0))
  induced_up d ind = (package_law g u ms ps ec s).induced d ind

  -- a label of the grammar that is not hidden, and the one that tells the same by place
  record IsPair (x k : Label) : Type 0 where
    own : IsLabel g x
    shown : IsHidden g u x → ⊥
    tells : TellsByPlace g u ms ps x k
    theirs : IsLabel pack k

  module _ (x y k l : Label) (px : IsPair x k) (py : IsPair y l) where
    both_shown : AreShown g u x y
    both_shown = (px.shown, py.shown)

    both_whole : AreShown pack whole k l
    both_whole = (default_hides_none pack k, default_hides_none pack l)

    up : AreClashing g x y → AreClashing pack k l
    up h = clash_up g u ms ps wf ec s x y k l px.tells py.tells px.shown py.shown h

    back : AreClashing pack k l → AreClashing g x y
    back h = clash_back g u ms ps wf ec s x y k l px.tells py.tells px.shown py.shown h

    module _ (apart : AreClashing g x y → ⊥) (d e : Assignment) (ind : IsInduced g u d) (ind2 : IsInduced pack whole e) where
      here : IsAnswered g u d x y
      here = answer_induced g u d wf proper ec ind x y px.own py.own both_shown apart

      there : IsAnswered pack whole e k l
      there =
          let p = package_law g u ms ps ec s in
          answer_induced pack whole e (p.formed wf) (p.proper proper) (default_expands_composites pack) ind2 k l px.theirs py.theirs both_whole (λ q. apart (back q))

      same_reach : (c : IsConsumed g u ms ps wf ec s x k) (p : IsProduced g u ms ps wf ec s y l) →
          Reaches g d g.start c.address p.address c.port p.port ↔ Reaches pack e pack.start (renumbered (place_in ps) c.address) (renumbered (place_in ps) p.address) c.port p.port
      same_reach c p =
          ((package_law g u ms ps ec s).reach d e proper ind ind2).reaches c.address p.address c.open_route p.open_route
          (ends_agree g u ms ps wf ec s x y k l c.address p.address c.end p.end apart) c.port p.port c.in_range p.in_range

      -- what always holds in the grammar does not fail in the package
      not_yes_no : AlwaysDepends g u x y → (AlwaysDepends pack whole k l → ⊥) → ⊥
      not_yes_no always never = go (consumed_or_output g u ms ps wf ec s x k px.own px.tells px.shown) (produced_or_input g u ms ps wf ec s y l py.own py.tells py.shown)
        where
          go : IsConsumed g u ms ps wf ec s x k ⊎ ((p : ℕ) × (x ≡ Output p) × (k ≡ Output p)) →
              IsProduced g u ms ps wf ec s y l ⊎ ((p : ℕ) × (y ≡ Input p) × (l ≡ Input p)) → ⊥
          go (inr o) p = (here.from_output o.0 o.1).1 always
          go (inl c) (inr i) = (here.to_input i.0 i.1).1 always
          go (inl c) (inl p) = (here.no c.address p.address c.port p.port c.here p.here (λ r. never (there.yes _ _ c.port p.port c.there p.there ((same_reach c p).0 r)))).1 always

      -- and what always holds in the package does not fail in the grammar
      not_no_yes : (AlwaysDepends g u x y → ⊥) → AlwaysDepends pack whole k l → ⊥
      not_no_yes never always = go (consumed_or_output g u ms ps wf ec s x k px.own px.tells px.shown) (produced_or_input g u ms ps wf ec s y l py.own py.tells py.shown)
        where
          go : IsConsumed g u ms ps wf ec s x k ⊎ ((p : ℕ) × (x ≡ Output p) × (k ≡ Output p)) →
              IsProduced g u ms ps wf ec s y l ⊎ ((p : ℕ) × (y ≡ Input p) × (l ≡ Input p)) → ⊥
          go (inr o) p = (there.from_output o.0 o.2).1 always
          go (inl c) (inr i) = (there.to_input i.0 i.2).1 always
          go (inl c) (inl p) = (there.no _ _ c.port p.port c.there p.there (λ r. never (here.yes c.address p.address c.port p.port c.here p.here ((same_reach c p).1 r)))).1 always

    -- so both have one verdict
    one : (v w : Verdict) → IsVerdict g u x y v → IsVerdict pack whole k l w → v ≡ w
    one Hidden1 w h j = absurd (px.shown h)
    one Hidden2 w h j = absurd (py.shown h.1)
    one Clash Hidden1 h j = absurd (default_hides_none pack k j)
    one Clash Hidden2 h j = absurd (default_hides_none pack l j.1)
    one Clash Clash h j = refl
    one Clash Yes h j = absurd (j.1 (up h.1))
    one Clash No h j = absurd (j.1 (up h.1))
    one Yes Hidden1 h j = absurd (default_hides_none pack k j)
    one Yes Hidden2 h j = absurd (default_hides_none pack l j.1)
    one Yes Clash h j = absurd (h.1 (back j.1))
    one Yes Yes h j = refl
    one Yes No h j = absurd (not_yes_no h.1 one_induced.0 _ one_induced.1 (induced_up one_induced.0 one_induced.1) h.2 j.2)
    one No Hidden1 h j = absurd (default_hides_none pack k j)
    one No Hidden2 h j = absurd (default_hides_none pack l j.1)
    one No Clash h j = absurd (h.1 (back j.1))
    one No Yes h j = absurd (not_no_yes h.1 one_induced.0 _ one_induced.1 (induced_up one_induced.0 one_induced.1) h.2 j.2)
    one No No h j = refl

    same_verdict : (v : Verdict) → IsVerdict pack whole k l v ↔ IsVerdict g u x y v
    same_verdict v = (
      (λ j. let h = some_verdict g u wf proper ec safe x y px.own py.own in subst (IsVerdict g u x y) (one h.0 v h.1 j) h.1),
      (λ h. let p = package_law g u ms ps ec s in
          let j = some_verdict pack whole (p.formed wf) (p.proper proper) (default_expands_composites pack) (p.safe wf proper safe) k l px.theirs py.theirs in
          subst (IsVerdict pack whole k l) (sym (one v j.0 h j.1)) j.1),
    )

  -- the translation of a label
  abbrev IsKnown : Label → Translation → Type 0
  IsKnown x t = ((t ≡ Outside) × IsHidden g u x) ⊎ ((k : Label) × (t ≡ Inside k) × IsPair x k)

  known : (x : Label) (bytes : List ℕ) → IsLabel g x → Holds bytes (label_bits x) → (t : Translation) × TranslatesTo pack (loop_of (shown_of g u ms ps)) bytes t × IsKnown x t
  known x bytes lx h = ⊎_elim
      (λ hidden. (Outside, hidden_outside g u ms ps wf linear ec s x bytes lx h hidden, inl (refl, hidden)))
      (λ shown. let i = shown_inside g u ms ps wf linear ec s x bytes lx h shown in (Inside i.0, i.3, inr (i.0, refl, record { own = lx; shown = shown; tells = i.1; theirs = i.2 })))
      ((either_law g u wf x x lx lx).hidden)

  -- a verdict on a label that is hidden
  first_hidden : (x y : Label) (v : Verdict) → IsHidden g u x → IsVerdict g u x y v → v ≡ Hidden1
  first_hidden x y Hidden1 h j = refl
  first_hidden x y Hidden2 h j = absurd (j.0 h)
  first_hidden x y Clash h j = absurd (j.0.0 h)
  first_hidden x y Yes h j = absurd (j.0.0 h)
  first_hidden x y No h j = absurd (j.0.0 h)

  second_hidden : (x y : Label) (v : Verdict) → (IsHidden g u x → ⊥) → IsHidden g u y → IsVerdict g u x y v → v ≡ Hidden2
  second_hidden x y Hidden1 n h j = absurd (n j)
  second_hidden x y Hidden2 n h j = refl
  second_hidden x y Clash n h j = absurd (j.0.1 h)
  second_hidden x y Yes n h j = absurd (j.0.1 h)
  second_hidden x y No n h j = absurd (j.0.1 h)

  told : (x y : Label) (t r : Translation) → IsKnown x t → IsKnown y r → (v : Verdict) → IsTold pack t r v ↔ IsVerdict g u x y v
  told x y t r (inl hx) ky v = (
    (λ q. subst (IsVerdict g u x y) (sym (by ky q)) hx.1),
    (λ q. on ky (first_hidden x y v hx.1 q)),
  )
    where
      by : IsKnown y r → IsTold pack t r v → v ≡ Hidden1
      by (inl hy) q = subst (λ z. IsTold pack z Outside v) hx.0 (subst (λ z. IsTold pack t z v) hy.0 q)
      by (inr hy) q = subst (λ z. IsTold pack z (Inside hy.0) v) hx.0 (subst (λ z. IsTold pack t z v) hy.1 q)

      on : IsKnown y r → v ≡ Hidden1 → IsTold pack t r v
      on (inl hy) q = subst (λ z. IsTold pack t z v) (sym hy.0) (subst (λ z. IsTold pack z Outside v) (sym hx.0) q)
      on (inr hy) q = subst (λ z. IsTold pack t z v) (sym hy.1) (subst (λ z. IsTold pack z (Inside hy.0) v) (sym hx.0) q)
  told x y t r (inr kx) (inl hy) v = (
    (λ q. let e : v ≡ Hidden2 = subst (λ z. IsTold pack z Outside v) kx.1 (subst (λ z. IsTold pack t z v) hy.0 q) in subst (IsVerdict g u x y) (sym e) (kx.2.shown, hy.1)),
    (λ q. subst (λ z. IsTold pack t z v) (sym hy.0) (subst (λ z. IsTold pack z Outside v) (sym kx.1) (second_hidden x y v kx.2.shown hy.1 q))),
  )
  told x y t r (inr kx) (inr ky) v =
      let same = same_verdict x y kx.0 ky.0 kx.2 ky.2 v in (
        (λ q. same.0 (subst (λ z. IsTold pack z (Inside ky.0) v) kx.1 (subst (λ z. IsTold pack t z v) ky.1 q))),
        (λ q. subst (λ z. IsTold pack t z v) (sym ky.1) (subst (λ z. IsTold pack z (Inside ky.0) v) (sym kx.1) (same.1 q))),
      )

pub consult_law : ConsultLaw
consult_law g u ms ps wf proper linear ec safe s x y first second lx ly hx hy v =
    let tx = known g u ms ps wf proper linear ec safe s x first lx hx in
    let ty = known g u ms ps wf proper linear ec safe s y second ly hy in
    let both = told g u ms ps wf proper linear ec safe s x y tx.0 ty.0 tx.2 ty.2 v in (
      (λ c. both.0 (subst (λ z. IsTold (packaged g u ms ps) z ty.0 v) (one_translation g u ms ps wf linear ec s first c.first tx.0 c.first_is tx.1)
          (subst (λ z. IsTold (packaged g u ms ps) c.first z v) (one_translation g u ms ps wf linear ec s second c.second ty.0 c.second_is ty.1) c.told))),
      (λ q. record { first = tx.0; second = ty.0; first_is = tx.1; second_is = ty.1; told = both.1 q }),
    )
