-- A fold over the pairs of two slices.
use Rattle.std.proofs.Common.{◌≡◌, List, Bor}
use Rattle.std.specs.Fn.{Called, Mut}
use Rattle.std.specs.List.{FoldsTo, fold, zip}
use Rattle.std.specs.Iterator.{Drains}
use Rattle.std.specs.Iterator.Adapters.{zip_first, zip_second}
use Rattle.std.specs.Slice.Iter.{iter_rest}
use Rattle.std.specs.declared.iter.Zip.{Zip}
use Rattle.std.specs.declared.slice.Iter.{Iter}
use Rattle.std.proofs.lemmas.Fn.{fronts}
use Rattle.std.proofs.lemmas.Iterator.{YieldsList-from_slice, YieldsList-from_zip, zips}
use Rattle.std.proofs.lemmas.Iterator.Consumers.{fold_from_yields_List}

pub fold_of_pairs : {X Y C F : Type 0} {g : Mut F (C × ((Bor X × Bor Y) × Unit {0})) C} (h : C → X × Y → C) {f : F} {s : Zip (Iter X) (Iter Y)} {init r : C} (xs : List X) (ys : List Y)
    → iter_rest (zip_first s) ≡ xs → iter_rest (zip_second s) ≡ ys
    → ((ps : List (Bor X × Bor Y)) × (q : F) × Drains (zips fronts fronts) s ps × FoldsTo {P = F × C} (λ a x b. Called g a.0 (a.1, (x, tt)) b.1 b.0) (f, init) ps (q, r))
    → ((a : C) (p : Bor X × Bor Y) (b : C) (q : F) → Called g f (a, (p, tt)) b q → (q ≡ f) × (b ≡ h a (p.0.now, p.1.now))) → r ≡ fold h init (zip xs ys)
fold_of_pairs h xs ys first second ran each =
    fold_from_yields_List _ h _ _ ran (YieldsList-from_zip (YieldsList-from_slice xs first) (YieldsList-from_slice ys second)) each
