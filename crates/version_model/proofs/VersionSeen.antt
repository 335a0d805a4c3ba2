-- What is seen of a run of a version is seen of it in the grammar, under views that show the version alike.
use Rattle.std.proofs.Common.{◌≡◌, ◌↔◌, ◌&&◌, ◌||◌, ℕ, ◌<◌, cond, List, [], ◌∷◌, ◌++◌, get_or, bytes_eq, Option, Some, None, sym, ap, ◌∙◌, subst, inl, inr, ⊎_elim, refl}
use Rattle.wf_model.specs.Lists.{IsIn}
use Rattle.wf_model.specs.Grammar.{Grammar, head_of, body_of}
use Rattle.wf_model.specs.View.{View, expands}
use Rattle.wf_model.specs.declared.event.Event.{Event}
use Rattle.wf_model.specs.declared.event.Event.TheVariants.{Start, Expand}
use Rattle.wf_model.specs.Run.{Instance, named, made_by, Extends, AllExtend, IsRun, opens, newly_seen, see_all, seen_in}
use Rattle.wf_model.specs.Reach.{Step, IsAlong}
use Rattle.wf_model.specs.Routes.{IsRoute}
use Rattle.wf_model.specs.Items.{IsMadeOpen}
use Rattle.wf_model.proofs.Lists.{in_append_cases, at_in}
use Rattle.wf_model.proofs.Runs.{at_named, newly-made}
use Rattle.wf_model.specs.Versions.{version_of, IsVersion}
use Rattle.version_model.specs.Versions.{ShowAlike}
use Rattle.version_model.specs.Laws.{VersionVisibleLaw}
use Rattle.version_model.proofs.SameParts.{in_version, module_in, head_same, body_same}

-- the modules of these instances are modules of the version
abbrev AreBelow : ℕ → List Instance → Type 0
AreBelow m is = (i : Instance) → IsIn i is → i.module_no < m

module _ (g : Grammar) (m p : ℕ) (is : IsVersion g m p) (u w : View) (alike : ShowAlike (version_of g m p) u w) where
  pub expands_same : (k : ℕ) → k < m → expands w k ≡ expands u k
  expands_same k h = alike.expanded k (module_in g m p is k h)

  opens_same : (s : List Instance) → AreBelow m s → (n : List ℕ) → opens w s n ≡ opens u s n
  opens_same [] h n = refl
  opens_same (i ∷ s) h n =
      ap (λ b. (bytes_eq i.name n && b) || opens w s n) (expands_same i.module_no (h i (inl refl))) ∙
      ap (λ b. (bytes_eq i.name n && expands u i.module_no) || b) (opens_same s (λ j q. h j (inr q)) n)

  made_below : (k : ℕ) → k < m → (b : List Event) (e : Event) → Extends (version_of g m p) k b e → AreBelow m (made_by (version_of g m p) k e)
  made_below k hk b (Start r) x i h = ⊎_elim (λ q. subst (λ (z : Instance). z.module_no < m) (sym q) hk) (λ q. absurd q) h
  made_below k hk b (Expand j q names) x i h =
      let hq = in_version g m p is q x.in_range in
      let r = at_named i names (body_of (version_of g m p) q) h in
      is.bodies q hq i.module_no (subst (IsIn i.module_no) (body_same g m p is q hq) (at_in i.module_no r.0 (body_of (version_of g m p) q) r.2))

  with_newly : (k : ℕ) → k < m → (b : List Event) (s : List Instance) (e : Event) → Extends (version_of g m p) k b e → AreBelow m s → AreBelow m (s ++ newly_seen (version_of g m p) u k s e)
  with_newly k hk b s e x h i q = ⊎_elim (h i) (λ z. made_below k hk b e x i (newly-made (version_of g m p) u k s e i z)) (in_append_cases i s (newly_seen (version_of g m p) u k s e) q)

  newly_same : (k : ℕ) (b : List Event) (s : List Instance) (e : Event) → Extends (version_of g m p) k b e → AreBelow m s → newly_seen g w k s e ≡ newly_seen (version_of g m p) u k s e
  newly_same k b s (Start r) x h = refl
  newly_same k b s (Expand j q names) x h =
      ap (λ o. cond o (named names (body_of g q)) []) (opens_same s h j) ∙
      ap (λ ms. cond (opens u s j) (named names ms) []) (sym (body_same g m p is q (in_version g m p is q x.in_range)))

  -- the same instances are seen, and they are of modules of the version
  see_same : (k : ℕ) → k < m → (b : List Event) (s : List Instance) (e : List Event) → AllExtend (version_of g m p) k b e → AreBelow m s →
      (see_all g w k s e ≡ see_all (version_of g m p) u k s e) × AreBelow m (see_all (version_of g m p) u k s e)
  see_same k hk b s [] x h = (refl, h)
  see_same k hk b s (y ∷ e) x h =
      let r = see_same k hk (b ++ y ∷ []) (s ++ newly_seen (version_of g m p) u k s y) e x.1 (with_newly k hk b s y x.0 h) in
      (ap (λ l. see_all g w k (s ++ l) e) (newly_same k b s y x.0 h) ∙ r.0, r.1)

  pub visible_same : (e : List Event) → IsRun (version_of g m p) g.start e → (n : Option (List ℕ)) → IsMadeOpen (version_of g m p) u g.start e n ↔ IsMadeOpen g w g.start e n
  visible_same e run None = ((λ q. q), (λ q. q))
  visible_same e run (Some n) =
      let s = see_same g.start is.start [] [] e run (λ i q. absurd q) in
      let o : opens w (seen_in g w g.start e) n ≡ opens u (seen_in (version_of g m p) u g.start e) n =
      ap (λ l. opens w l n) s.0 ∙ opens_same (seen_in (version_of g m p) u g.start e) s.1 n in
      ((λ q. o ∙ q), (λ q. sym o ∙ q))

  -- an address of instances that are open in the version leads through instances that are open in the grammar
  pub along_too : (e : List Event) (a : List Step) (k : ℕ) (n x : List ℕ) → IsRoute (version_of g m p) k a → IsAlong (version_of g m p) u e n a x → IsAlong g w e n a x
  along_too e [] k n x r h = h
  along_too e (s ∷ a) k n x r h =
      let hq = in_version g m p is s.production r.0 in
      let head = head_same g m p is s.production hq in (
        h.0,
        h.1,
        h.2,
        expands_same (head_of g s.production) (is.heads s.production hq) ∙ (ap (expands u) (sym head) ∙ h.3),
        along_too e a _ (get_or h.0 s.position []) x r.3 h.4,
      )

pub version_visible_law : VersionVisibleLaw
version_visible_law g m p is u w alike events run t = visible_same g m p is u w alike events run t.maker
