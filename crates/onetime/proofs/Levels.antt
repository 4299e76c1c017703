use Rattle.std.proofs.Common.{◌≡◌, ℕ, zero, suc, ◌+◌, ◌*◌, ◌/◌, ◌<◌, List, [], ◌∷◌, length, get_or, map, ap, ◌∙◌, add-zero, arith, lit<}
use Rattle.std.specs.Simd.{first_chunks}
use Rattle.std.proofs.lemmas.List.{get_or-map}
use Rattle.onetime.proofs.Runs.{pair_at}
use Rattle.onetime.specs.Chains.{leaf_of}
use Rattle.onetime.specs.Hashes.{node}
use Rattle.onetime.specs.Trees.{Level, beside, sibling, above, tree}

module _ (secret : List ℕ) where
  pub leaves_stand : (n : ℕ) (nodes : List (List ℕ)) → ((i : ℕ) → i < n → get_or nodes i [] ≡ leaf_of secret i) → Level secret 0 n nodes
  unfolding tree
  leaves_stand n nodes each = each

  module _ (level n : ℕ) (below : List (List ℕ)) (was : Level secret level (2 * n) below) where
    pub over : (i : ℕ) → i < n → node level (get_or below (2 * i) []) (get_or below (2 * i + 1) []) ≡ tree secret (suc level) i
    unfolding tree
    over i low =
        ap (λ (x : List ℕ). node level x (get_or below (2 * i + 1) [])) (was (2 * i) (omega arith))
        ∙ ap (λ (x : List ℕ). node level (tree secret level (2 * i)) x) (was (2 * i + 1) (omega arith))

    -- the nodes over the pairs of a level
    pub level_up : (pairs : List (List (List ℕ))) (nodes : List (List ℕ)) → length below ≡ 2 * n → length pairs ≡ n → pairs ≡ first_chunks 2 (length below / 2) below
        → nodes ≡ map (λ pair. node level (get_or pair 0 []) (get_or pair 1 [])) pairs → Level secret (suc level) n nodes
    level_up pairs nodes long many cut made i low =
        let half : i < length below / 2 = omega arith in
        let child = λ (j : ℕ) (small : j < 2). ap (λ (p : List (List (List ℕ))). get_or (get_or p i []) j []) cut ∙ pair_at (length below / 2) i j below half small in
        ap (λ (l : List (List ℕ)). get_or l i []) made
        ∙ get_or-map (λ pair. node level (get_or pair 0 []) (get_or pair 1 [])) pairs i [] [] (omega arith)
        ∙ ap (λ (x : List ℕ). node level x (get_or (get_or pairs i []) 1 [])) (simp add-zero at (child 0 (lit< tt)))
        ∙ ap (λ (x : List ℕ). node level (get_or below (2 * i) []) x) (child 1 (lit< tt))
        ∙ over i low

  -- a sibling, read from its level
  pub sibling_stands : (level n turn i at : ℕ) (nodes : List (List ℕ)) → Level secret level n nodes → at ≡ beside i → at < n → i ≡ above turn level → get_or nodes at [] ≡ sibling secret turn level
  sibling_stands level n turn i at nodes stands is low there = stands at low ∙ ap (tree secret level) (is ∙ ap beside there)

  pub path_stands : (turn : ℕ) (a b c d e : List ℕ) → a ≡ sibling secret turn 0 → b ≡ sibling secret turn 1 → c ≡ sibling secret turn 2 → d ≡ sibling secret turn 3 → e ≡ sibling secret turn 4 → (v : ℕ) → v < 5 → get_or (a ∷ (b ∷ (c ∷ (d ∷ (e ∷ []))))) v [] ≡ sibling secret turn v
  path_stands turn a b c d e p q r s t zero low = p
  path_stands turn a b c d e p q r s t (suc zero) low = q
  path_stands turn a b c d e p q r s t (suc (suc zero)) low = r
  path_stands turn a b c d e p q r s t (suc (suc (suc zero))) low = s
  path_stands turn a b c d e p q r s t (suc (suc (suc (suc zero)))) low = t
  path_stands turn a b c d e p q r s t (suc (suc (suc (suc (suc v))))) low = absurd (omega arith)
