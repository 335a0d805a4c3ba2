-- What is due, and what of it was put.
use Rattle.std.proofs.Common.{◌≡◌, ◌<◌, ℕ, List, [], ◌++◌, length, take, Option, sym, ap, ◌∙◌, subst, arith, length-append, append-nil, append_assoc}
use Rattle.wf_io.specs.Told.{Appended}
use Rattle.wf_io.proofs.Appending.{appended_none, appended_twice, begun_longer, begun_after}
use Rattle.wf_lines.specs.Taking.{IsDue, IsBegun, IsCut, IsPutAt}
use Rattle.wf_lines.specs.declared.fault.Halt.{Halt}
use Rattle.wf_lines.specs.declared.fault.Halt.TheVariants.{WriteFault}

-- all that was due was put, and a text is due behind it
pub due_alone : (due text new_due : List ℕ) (old new : Option (List ℕ)) → Appended due old new → new_due ≡ text → IsDue (due ++ text) new_due old new
due_alone due text new_due old new put is = record { done = due; put = put; split = ap (λ x. due ++ x) (sym is) }

-- all that was due was put, and a text behind it
pub due_none : (due text new_due : List ℕ) (a b c : Option (List ℕ)) → Appended due a b → Appended text b c → new_due ≡ [] → IsDue (due ++ text) new_due a c
due_none due text new_due a b c put more is = record { done = due ++ text; put = appended_twice due text a b c put more; split = sym (append-nil (due ++ text)) ∙ ap (λ x. (due ++ text) ++ x) (sym is) }

-- nothing was put
pub due_still : (text new_due : List ℕ) (old new : Option (List ℕ)) → new ≡ old → new_due ≡ text → IsDue text new_due old new
due_still text new_due old new same is = record { done = []; put = appended_none old new same; split = sym is }

-- a beginning was put of a text that was due
pub due_begun : (text due : List ℕ) (a b c : Option (List ℕ)) → IsDue text due a b → IsBegun due b c → IsBegun text a c
due_begun text due a b c is begun =
    let k = begun_after is.done due begun.0 a b c is.put begun.1 in (k.0, subst (λ x. Appended (take k.0 x) a c) (sym is.split) k.1)

-- all was put of a text that was due
pub due_put : (text due : List ℕ) (a b c : Option (List ℕ)) → IsDue text due a b → Appended due b c → Appended text a c
due_put text due a b c is put = subst (λ x. Appended x a c) (sym is.split) (appended_twice is.done due a b c is.put put)

-- a text is due of which more was due before
pub due_later : (text due later : List ℕ) (a b c : Option (List ℕ)) → IsDue text due a b → IsDue due later b c → IsDue text later a c
due_later text due later a b c is more = record {
  done = is.done ++ more.done;
  put = appended_twice is.done more.done a b c is.put more.put;
  split = is.split ∙ (ap (λ x. is.done ++ x) more.split ∙ sym (append_assoc is.done more.done later));
}

-- another text is due behind it
pub due_more : (text due more : List ℕ) (a b : Option (List ℕ)) → IsDue text due a b → IsDue (text ++ more) (due ++ more) a b
due_more text due more a b is = record { done = is.done; put = is.put; split = ap (λ x. x ++ more) is.split ∙ append_assoc is.done due more }

-- all that was due was put, and nothing is due
pub due_empty : (text due new_due : List ℕ) (a b c : Option (List ℕ)) → IsDue text due a b → Appended due b c → new_due ≡ [] → IsDue text new_due a c
due_empty text due new_due a b c is put none = record { done = text; put = due_put text due a b c is put; split = sym (append-nil text) ∙ ap (λ x. text ++ x) (sym none) }

-- a text of which something is due has a byte
pub due_some : (text due : List ℕ) (a b : Option (List ℕ)) → IsDue text due a b → 0 < length due → 0 < length text
due_some text due a b is some = let e = ap (length {A = ℕ}) is.split ∙ length-append is.done due in omega (arith, e, some)

-- writing failed of a text that was due
pub due_cut : (text due : List ℕ) (a b c : Option (List ℕ)) → IsDue text due a b → IsCut due b c → IsCut text a c
due_cut text due a b c is cut = record { some = due_some text due a b is cut.some; begun = due_begun text due a b c is cut.begun }

-- and of a longer text
pub cut_longer : (text more : List ℕ) (a b : Option (List ℕ)) → IsCut text a b → IsCut (text ++ more) a b
cut_longer text more a b cut = record {
  some = let e = length-append text more in let some = cut.some in omega (arith, e, some);
  begun = begun_longer cut.begun.0 text more a b cut.begun.1;
}

-- and behind a text that was put
pub cut_behind : (first text : List ℕ) (a b c : Option (List ℕ)) → Appended first a b → IsCut text b c → IsCut (first ++ text) a c
cut_behind first text a b c put cut = record {
  some = let e = length-append first text in let some = cut.some in omega (arith, e, some);
  begun = begun_after first text cut.begun.0 a b c put cut.begun.1;
}

-- so where writing failed
pub begun_at : (h : Halt) (text due : List ℕ) (a b c : Option (List ℕ)) → h ≡ WriteFault → IsDue text due a b → IsPutAt h due b c → IsPutAt h text a c
begun_at h text due a b c is far put = subst (λ z. IsPutAt z text a c) (sym is) (due_cut text due a b c far (subst (λ z. IsPutAt z due b c) is put))
