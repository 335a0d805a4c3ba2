-- The links of the instances of the table are those of the run.
use Rattle.std.proofs.Common.{◌≡◌, ℕ, ◌+◌, ◌<◌, ◌≤◌, ◌^◌, Bool, true, false, cond, List, [], ◌∷◌, ◌++◌, map, flat_map, length, get_or, Option, Some, None, refl, ap, sym, subst, ◌∙◌, arith, inl, inr}
use Rattle.std.proofs.lemmas.List.{map-append}
use Rattle.wf_model.specs.declared.numbers.ProdNo.{ProdNo}
use Rattle.wf_model.specs.Lists.{IsIn}
use Rattle.wf_model.specs.Grammar.{Grammar, body_of, production_at}
use Rattle.wf_model.specs.WellFormed.{IsWellFormed}
use Rattle.wf_model.specs.View.{View}
use Rattle.wf_model.specs.Links.{links_of}
use Rattle.wf_model.specs.Meaning.{pairs_of}
use Rattle.wf_model.proofs.Lists.{is_at, in_flat_map_from}
use Rattle.wf_flat.specs.declared.table.Inst.{Inst}
use Rattle.wf_flat.specs.declared.graph.Link.{Link}
use Rattle.wf_flat.specs.Table.{Table, IsTableOf, names_in, events_of, no_instance}
use Rattle.wf_flat.specs.Graph.{flag_of, Marks, inst_at, named_link, named_links, pairs_at, wiring_at, opened_at, links_at, links_among}
use Rattle.wf_flat.specs.Flat.{AreWithin}
use Rattle.wf_flat.specs.Seeing.{AreSeenBy, AreLinksBy}
use Rattle.wf_flat.proofs.OfInstance.{production_there, links_opened, links_waiting, links_closed, rule}
use Rattle.wf_flat.proofs.Naming.{wiring_named, pairs_named}
use Rattle.wf_flat.proofs.Within.{wiring_within, pairs_within}

module _ (g : Grammar) (marks : List Bool) (leaf : List (Option (List ℕ))) (xs : List Inst) (k : ℕ) where
  abbrev y : Inst
  y = get_or xs k no_instance

  -- the links of an instance of a marked module, and of another
  pub at_marked : flag_of marks y.module.0 ≡ true → links_at g marks leaf xs k ≡ opened_at g leaf y k y.production
  at_marked e = ap (λ b. cond b (opened_at g leaf y k y.production) (pairs_at g leaf y.module.0 k)) e

  pub at_other : flag_of marks y.module.0 ≡ false → links_at g marks leaf xs k ≡ pairs_at g leaf y.module.0 k
  at_other e = ap (λ b. cond b (opened_at g leaf y k y.production) (pairs_at g leaf y.module.0 k)) e

module _ (g : Grammar) (t : Table) (run : IsTableOf g t) (wf : IsWellFormed g) (small : length t.instances < 2 ^ 32) (marks : List Bool) (leaf : List (Option (List ℕ))) where
  abbrev names : List (List ℕ)
  names = names_in t.instances

  module _ (k : ℕ) (there : k < length t.instances) where
    abbrev x : Inst
    x = get_or t.instances k no_instance

    -- where the children of the instance are
    room : (p : ProdNo) → x.production ≡ Some p → x.first_child + length (body_of g p.0) ≤ length t.instances
    room p e = run.children k x p (is_at k t.instances no_instance there) e

    -- what holds of the pairs and of the edges, entries and exits holds of the links
    pub by_links : (P : List Link → Type 0) →
        (flag_of marks x.module.0 ≡ false → P (pairs_at g leaf x.module.0 k)) →
        (flag_of marks x.module.0 ≡ true → x.production ≡ None → P (pairs_at g leaf x.module.0 k)) →
        ((p : ProdNo) → flag_of marks x.module.0 ≡ true → x.production ≡ Some p → P (wiring_at k x.first_child (production_at g p.0))) → P (links_at g marks leaf t.instances k)
    by_links P closed waiting opened = go (flag_of marks x.module.0) refl x.production refl
      where
        go : (b : Bool) → flag_of marks x.module.0 ≡ b → (o : Option ProdNo) → x.production ≡ o → P (links_at g marks leaf t.instances k)
        go false e o d = subst P (sym (at_other g marks leaf t.instances k e)) (closed e)
        go true e None d = subst P (sym (at_marked g marks leaf t.instances k e ∙ ap (opened_at g leaf x k) d)) (waiting e d)
        go true e (Some p) d = subst P (sym (at_marked g marks leaf t.instances k e ∙ ap (opened_at g leaf x k) d)) (opened p e d)

    pub links_named : (u : View) → Marks marks u → named_links names (links_at g marks leaf t.instances k) ≡ links_of g u (pairs_of leaf) (events_of t) (inst_at t.instances k)
    links_named u m = by_links (λ ls. named_links names ls ≡ links_of g u (pairs_of leaf) (events_of t) (inst_at t.instances k))
        (λ e. pairs_named names k g leaf x.module.0 ∙ sym (links_closed g t run wf k there u (pairs_of leaf) (m x.module.0 ∙ e)))
        (λ e d. pairs_named names k g leaf x.module.0 ∙ sym (links_waiting g t run wf k there u (pairs_of leaf) (m x.module.0 ∙ e) d))
        (λ p e d.
        let r = room p d in
        let low : x.first_child + length (body_of g p.0) < 2 ^ 32 = omega arith in
        wiring_named names k x.first_child (length (body_of g p.0)) low (production_at g p.0) (rule g wf p.0 (production_there g t run wf k there p d)).below
        ∙ sym (links_opened g t run wf k there u (pairs_of leaf) p (m x.module.0 ∙ e) d))

    pub links_within : AreWithin (length t.instances) (links_at g marks leaf t.instances k)
    links_within = by_links (AreWithin (length t.instances))
        (λ e. pairs_within k (length t.instances) there g x.module.0 (get_or leaf x.module.0 None))
        (λ e d. pairs_within k (length t.instances) there g x.module.0 (get_or leaf x.module.0 None))
        (λ p e d. wiring_within k x.first_child (length (body_of g p.0)) (length t.instances) there (room p d) small (production_at g p.0) (rule g wf p.0 (production_there g t run wf k there p d)).below)

  -- the links of instances, one after the other
  among_named : (u : View) → Marks marks u → (ks : List ℕ) → ((k : ℕ) → IsIn k ks → k < length t.instances) →
      named_links names (links_among g marks leaf t.instances ks) ≡ flat_map (links_of g u (pairs_of leaf) (events_of t)) (map (inst_at t.instances) ks)
  among_named u m [] h = refl
  among_named u m (k ∷ ks) h =
      map-append (named_link names) (links_at g marks leaf t.instances k) (links_among g marks leaf t.instances ks)
      ∙ (ap (λ l. l ++ named_links names (links_among g marks leaf t.instances ks)) (links_named k (h k (inl refl)) u m)
      ∙ ap (λ l. links_of g u (pairs_of leaf) (events_of t) (inst_at t.instances k) ++ l) (among_named u m ks (λ j i. h j (inr i))))

  pub among_seen : (ks : List ℕ) → AreSeenBy g t marks ks → ((k : ℕ) → IsIn k ks → k < length t.instances) → AreLinksBy g t marks (pairs_of leaf) (links_among g marks leaf t.instances ks)
  among_seen ks seen there u m = among_named u m ks there ∙ ap (flat_map (links_of g u (pairs_of leaf) (events_of t))) (seen u m)

  pub among_within : (ks : List ℕ) → ((k : ℕ) → IsIn k ks → k < length t.instances) → AreWithin (length t.instances) (links_among g marks leaf t.instances ks)
  among_within ks there l i = let r = in_flat_map_from (links_at g marks leaf t.instances) l ks i in links_within r.0 (there r.0 r.1) l r.2
