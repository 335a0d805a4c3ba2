-- Let pending instances have the pairs that every production induces. Then the links of a run tell how its visible items depend on one another in each finishing of it.
use Rattle.std.proofs.Common.{◌≡◌, ◌≢◌, ℕ, List, [], ◌∷◌, ◌++◌, Option, Some, None, refl, sym, ◌∙◌, subst}
use Rattle.std.specs.Prelude.{◌↔◌}
use Rattle.std.proofs.lemmas.Option.{same_Some}
use Rattle.wf_model.specs.Lists.{IsIn}
use Rattle.wf_model.specs.Grammar.{Grammar, Assignment}
use Rattle.wf_model.specs.WellFormed.{IsWellFormed}
use Rattle.wf_model.specs.View.{View, at_start}
use Rattle.wf_model.specs.Safe.{IsInduced}
use Rattle.wf_model.specs.declared.event.Event.{Event}
use Rattle.wf_model.specs.Run.{IsRun}
use Rattle.wf_model.specs.Finishing.{IsFinishing}
use Rattle.wf_model.specs.Links.{Port, Path, input, output, links, links_with}
use Rattle.wf_model.specs.Items.{Item, items, IsVisible, PathBetween, Depends}
use Rattle.wf_laws.proofs.Depends.{items_law}
use Rattle.wf_laws.proofs.Reach.{pending_law}
use Rattle.cmd_ask.specs.Prepared.{PathIn}

-- a run that has an item has an event
started : (g : Grammar) (e : List Event) (t : Item) → IsIn t (items g g.start e) → e ≢ []
started g [] t h = λ q. h
started g (d ∷ e) t h = λ q. absurd (cc)

module _ (g : Grammar) (u : View) (wf : IsWellFormed g) (full : Assignment) (induced : IsInduced g u full) (e : List Event) (run : IsRun g g.start e) where
  -- where two visible items are consumed and produced, both links have paths or neither
  pub pending_depends : (s t : Item) → IsIn s (items g g.start e) → IsVisible g u g.start e s → IsIn t (items g g.start e) → IsVisible g u g.start e t →
      (more : List Event) → IsFinishing g u g.start e more → PathIn (links_with g u full g.start e) s.consumed t.produced ↔ Depends g u (e ++ more) s t
  pending_depends s t s_in s_seen t_in t_seen more f = go s.consumed t.produced refl refl
    where
      ne : e ≢ []
      ne = started g e s s_in

      go : (c p : Option (Port (List ℕ))) → s.consumed ≡ c → t.produced ≡ p → PathIn (links_with g u full g.start e) c p ↔ PathBetween g u g.start (e ++ more) c p
      go None p ec ep = (λ h. h, λ h. h)
      go (Some x) None ec ep = (λ h. h, λ h. h)
      go (Some x) (Some y) ec ep =
          let c = (items_law g u wf g.start e run ne s s_in s_seen).consumed x ec in
          let p = (items_law g u wf g.start e run ne t t_in t_seen).produced y ep in
          let from : x ≡ input c.2.instance c.1 = same_Some x _ (sym ec ∙ c.2.port) in
          let to : y ≡ output p.2.instance p.1 = same_Some y _ (sym ep ∙ p.2.port) in
          subst (λ z. Path (links_with g u full g.start e) z y ↔ Path (links g u g.start (e ++ more)) z y) (sym from)
          (subst (λ z. Path (links_with g u full g.start e) (input c.2.instance c.1) z ↔ Path (links g u g.start (e ++ more)) (input c.2.instance c.1) z) (sym to)
          (pending_law g u full wf induced g.start (at_start refl) e more ne run f c.0 p.0 c.2.instance p.2.instance c.2.along p.2.along c.1 p.1 c.2.in_range p.2.in_range))
