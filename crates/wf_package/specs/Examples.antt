-- Worked texts of packages.
use Rattle.std.specs.Prelude.{◌≡◌, List, [], ◌∷◌, ◌++◌, ℕ, codes}
use Rattle.wf_laws.specs.LineGrammar.{line, shut_view}
use Rattle.label_model.specs.Examples.{fork}
use Rattle.package_model.specs.Shown.{shown_of}
use Rattle.package_model.specs.Examples.{shut, whole, cut}
use Rattle.wf_package.specs.PackageText.{package_text, IsPackageText}

-- of the line grammar with nothing expanded
abbrev pub shut_package_text : List ℕ
shut_package_text =
    codes "{\"package\":1,\"start\":\"m0\",\"modules\":[{\"name\":\"m0\",\"in\":[\"i0\"],\"out\":[\"o0\"]}],"
    ++ codes "\"productions\":[],\"deps\":[],\"loops\":[]}\n"

-- of the pair grammar with A alone expanded, by which its cycle is cut: its modules, its productions, and its end
abbrev pub cut_package_text : List ℕ
cut_package_text =
    codes "{\"package\":1,\"start\":\"m0\",\"modules\":[{\"name\":\"m0\",\"in\":[\"i0\"],\"out\":[\"o0\"]},"
    ++ codes "{\"name\":\"m1\",\"in\":[\"i0\"],\"out\":[\"o0\"]},{\"name\":\"m2\",\"in\":[\"i0\"],\"out\":[\"o0\"]}],"
    ++ codes "\"productions\":[{\"head\":\"m0\",\"body\":[[\"p0\",\"m2\"],[\"p1\",\"m1\"]],\"edges\":[[\"p0.o0\",\"p1.i0\"]],"
    ++ codes "\"in\":[[\"i0\",\"p0.i0\"]],\"out\":[[\"p1.o0\",\"o0\"]]},"
    ++ codes "{\"head\":\"m0\",\"body\":[[\"p0\",\"m2\"]],\"edges\":[],\"in\":[[\"i0\",\"p0.i0\"]],\"out\":[[\"p0.o0\",\"o0\"]]}],"
    ++ codes "\"deps\":[],\"loops\":[[\"m0\",0,1]]}\n"

-- the end of the text of the twisting grammar whole: W has two pairs crosswise, T two that are straight, and L goes on by its second production
abbrev pub whole_package_end : List ℕ
whole_package_end =
    codes "\"deps\":[{\"module\":\"m2\",\"pairs\":[[\"i0\",\"o1\"],[\"i1\",\"o0\"]]},"
    ++ codes "{\"module\":\"m3\",\"pairs\":[[\"i0\",\"o0\"],[\"i1\",\"o1\"]]}],\"loops\":[[\"m1\",1,1]]}\n"

-- texts of packages, computed from the definitions
pub record TextsAreWorked : Type 0 where
  pub shut_is : package_text shut ≡ shut_package_text
  -- it is the text of the view that expands nothing, and the fork has the same
  pub shut_view_has : IsPackageText line shut_view shut_package_text
  pub fork_has : package_text (shown_of fork shut_view (0 ∷ []) []) ≡ shut_package_text
  pub cut_is : package_text cut ≡ cut_package_text
  pub whole_ends : (beginning : List ℕ) × (package_text whole ≡ beginning ++ whole_package_end)
