-- What is held of a label file fits its grammar.
use Rattle.std.proofs.Common.{ℕ, List}
use Rattle.wf_model.specs.Grammar.{Grammar}
use Rattle.label_model.proofs.OpenedNames.{opened_differ}
use Rattle.label_file.specs.Stored.{EntryHeld, IsStoreOf, IsStoreFor}
use Rattle.label_file.proofs.ReadSoFar.{store_of_held}

-- what is held of a label file of a grammar is a store of the grammar
pub opened_fits : (g : Grammar) (digests : List (List ℕ)) (bytes : List ℕ) (hs : List EntryHeld) → IsStoreOf g digests bytes hs → IsStoreFor g hs
opened_fits g digests bytes hs s = store_of_held g s.entries hs s.held (opened_differ g digests bytes s.entries s.read)
