-- A version stands in the grammar, so the same is reached, and a view of it is safe if it is safe in the grammar.
use Rattle.std.proofs.Common.{◌↔◌, ℕ, ◌<◌, ◌++◌, map, length, refl, sym, ap, ◌∙◌, subst}
use Rattle.std.proofs.lemmas.List.{map-id}
use Rattle.wf_model.specs.Grammar.{Grammar, Production, body_of}
use Rattle.wf_model.specs.Links.{edge_link, entry_links, exit_links}
use Rattle.wf_model.specs.View.{View, IsSeenModule}
use Rattle.wf_laws.proofs.Full.{full_law, safe_full_law}
use Rattle.wf_laws.proofs.Safe.{one_test_suffices}
use Rattle.wf_model.specs.Versions.{version_of, IsVersion}
use Rattle.version_model.specs.Versions.{ShowAlike}
use Rattle.wf_model.specs.Reach.{Reaches}
use Rattle.version_model.specs.Standing.{StandsIn, renumbered}
use Rattle.version_model.specs.Laws.{VersionReachLaw, VersionSafeLaw}
use Rattle.version_model.proofs.SameParts.{in_version, in_grammar, module_in, production_same, head_same, body_same, ins_same, outs_same, seen_below}
use Rattle.version_model.proofs.VersionFormed.{formed}
use Rattle.version_model.proofs.Standing.{induced_here, standing_law}

pub version_stands : (g : Grammar) (m p : ℕ) → IsVersion g m p → (u w : View) → ShowAlike (version_of g m p) u w → StandsIn (version_of g m p) u g w (λ k. k) (λ q. q)
version_stands g m p is u w alike = record {
  start = refl;
  ins = λ k s. sym (ins_same g m p is k (seen_below g m p is u k s));
  outs = λ k s. sym (outs_same g m p is k (seen_below g m p is u k s));
  expanded = λ k s. alike.expanded k (there k s);
  shown = λ k s ex. alike.shown k (there k s) ex;
  productions = λ q h s ex.
      let i = in_version g m p is q h in
      record {
        in_range = in_grammar g m p is q i;
        head = sym (head_same g m p is q i);
        body = sym (body_same g m p is q i) ∙ sym (map-id (body_of (version_of g m p) q));
        wired = ap (λ (r : Production). map edge_link r.edges ++ (entry_links 0 r.entries ++ exit_links 0 r.exits)) (sym (production_same g m p is q i));
      };
}
  where
    there : (k : ℕ) → IsSeenModule (version_of g m p) u k → k < length (version_of g m p).modules
    there k s = module_in g m p is k (seen_below g m p is u k s)

pub version_reach_law : VersionReachLaw
version_reach_law g m p is proper u w ec alike d e ind ind2 a b oa ob agree i o hi ho =
    subst (λ y. Reaches (version_of g m p) d g.start a b i o ↔ Reaches g e g.start a y i o) (map-id b)
    (subst (λ x. Reaches (version_of g m p) d g.start a b i o ↔ Reaches g e g.start x (renumbered (λ q. q) b) i o) (map-id a)
    ((standing_law (version_of g m p) u g w (λ k. k) (λ q. q) proper ec (version_stands g m p is u w alike) d e ind ind2).reaches a b oa ob agree i o hi ho))

pub version_safe_law : VersionSafeLaw
version_safe_law g m p is wf proper u w ec alike safe k s a b xa xb i o hi ho q =
    let full = safe_full_law g w wf proper ec safe in
    let ind = induced_here (version_of g m p) u g w (λ k. k) (λ q. q) (version_stands g m p is u w alike) full.0 ((full_law g w full.0 wf proper ec).0 full.1) in
    let here = one_test_suffices (version_of g m p) u full.0 (formed g m p is wf) ind k s in
    (here b xb i o hi ho).0 ((here a xa i o hi ho).1 q)
