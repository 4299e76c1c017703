use Rattle.std.proofs.Common.{◌≡◌, ℕ, zero, suc, ◌+◌, ◌-◌, ◌*◌, ◌/◌, ◌%◌, ◌<◌, ◌≤◌, eqb, leb, List, [], ◌++◌, length, take, drop, sym, refl, ap, ◌∙◌, inl, inr, arith, lit≤}
use borrow.Rule.Slice.PartMut.{put_mid}
use Rattle.hash.specs.Sha256.{sha_256_length}
use Rattle.std.proofs.lemmas.Slice.Eq.{bytes_eq-Decides}
use Rattle.std.proofs.lemmas.List.{append_assoc, append-nil, drop_at, drop-drop, length-append, take_at}
use Rattle.std.proofs.lemmas.Bool.{and_from, cases_eq, eq-eqb, le-leb}
use Rattle.onetime.specs.Blocks.{hash_at, joined_to}
use Rattle.onetime.specs.Chains.{chain_at, chain_ends, finished_chains, leaf_of, signed_chains, walk}
use Rattle.onetime.specs.Digits.{digit}
use Rattle.onetime.specs.Hashes.{chain_start, leaf, node}
use Rattle.onetime.specs.Signatures.{ChainsMeet, PathsLeadUp, SignaturesAccepted, leads_to, signature}
use Rattle.onetime.specs.Trees.{above, beside, climb, parent, root, sibling, tree}
use Rattle.onetime.proofs.Nibbles.{digits_small}
use Rattle.onetime.proofs.Runs.{hash_at_joined, joined_length, joined_same}
use Rattle.onetime.proofs.Siblings.{above_is, beside_even, beside_odd, climb_same, parent_even, parent_odd}
use Rattle.onetime.proofs.Steps.{chain_length, walk_on}

pub chains_meet : ChainsMeet
chains_meet turn i digit start low =
    let n = 15 - digit in
    let first : digit ≡ 0 + digit = omega arith in
    let all : digit + n ≡ 15 = omega arith in
    ap (λ (p : ℕ). walk turn i p n (walk turn i 0 digit start)) first
    ∙ walk_on turn i 0 digit n start
    ∙ ap (λ (k : ℕ). walk turn i 0 k start) all

module _ (secret : List ℕ) where
  tree_length : (v i : ℕ) → length (tree secret v i) ≡ 32
  unfolding tree
  tree_length zero i = sha_256_length _
  tree_length (suc v) i = sha_256_length _

  module _ (turn : ℕ) where
    -- the node of a path at a level is the tree's
    path_in_tree : (v : ℕ) → climb (sibling secret turn) turn (leaf_of secret turn) v ≡ tree secret v (above turn v)
    unfolding climb tree above
    path_in_tree zero = refl
    path_in_tree (suc v) =
        let a = above turn v in
        let here = climb (sibling secret turn) turn (leaf_of secret turn) v in
        ap (λ (x : List ℕ). parent v a x (sibling secret turn v)) (path_in_tree v)
        ∙ elim (cases_eq (a % 2) 0) [
          | inl even ↦
              let left : a ≡ 2 * (a / 2) = omega arith in
              let right : beside a ≡ 2 * (a / 2) + 1 = omega (arith, beside_even a even) in
              parent_even v a (tree secret v a) (sibling secret turn v) even
              ∙ ap (λ (k : ℕ). node v (tree secret v k) (tree secret v (beside a))) left
              ∙ ap (λ (k : ℕ). node v (tree secret v (2 * (a / 2))) (tree secret v k)) right
          | inr odd ↦
              let left : beside a ≡ 2 * (a / 2) = omega (arith, beside_odd a odd) in
              let right : a ≡ 2 * (a / 2) + 1 = omega arith in
              parent_odd v a (tree secret v a) (sibling secret turn v) odd
              ∙ ap (λ (k : ℕ). node v (tree secret v k) (tree secret v a)) left
              ∙ ap (λ (k : ℕ). node v (tree secret v (2 * (a / 2))) (tree secret v k)) right
        ]

pub paths_lead_up : PathsLeadUp
paths_lead_up secret turn low =
    let top : above turn 5 ≡ 0 = omega (arith, above_is turn 5) in
    path_in_tree secret turn 5 ∙ ap (λ (i : ℕ). tree secret 5 i) top

-- a hash behind a run of m others
hash_behind : (m v : ℕ) (x y : List ℕ) → length x ≡ 32 * m → hash_at (m + v) (x ++ y) ≡ hash_at v y
hash_behind m v x y long =
    let at : 32 * (m + v) ≡ 32 * m + 32 * v = omega arith in
    let size : 32 * (m + v) + 32 - 32 * (m + v) ≡ 32 * v + 32 - 32 * v = omega arith in
    ap (λ (n : ℕ). take n (drop (32 * (m + v)) (x ++ y))) size
    ∙ ap (take (32 * v + 32 - 32 * v))
    (ap (λ (n : ℕ). drop n (x ++ y)) at ∙ sym (drop-drop (32 * v) (32 * m) (x ++ y)) ∙ ap (drop (32 * v)) (drop_at x y (32 * m) long))

module _ (secret digest : List ℕ) (turn : ℕ) where
  chain : ℕ → List ℕ
  chain i = chain_at secret turn i (digit digest i)

  long_chain : (i : ℕ) → i < 67 → length (chain i) ≡ 32
  unfolding chain
  long_chain i h = chain_length secret turn i (digit digest i)

  chains_length : length (signed_chains secret turn digest) ≡ 2144
  unfolding chain
  chains_length = joined_length chain 67 long_chain 67 (lit≤ tt)

  path_length : length (joined_to (sibling secret turn) 5) ≡ 160
  path_length = joined_length (sibling secret turn) 5 (λ v h. tree_length secret v (beside (above turn v))) 5 (lit≤ tt)

  pub signature_length : length (signature secret turn digest) ≡ 2304
  signature_length = length-append (signed_chains secret turn digest) (joined_to (sibling secret turn) 5) ∙ omega (arith, chains_length, path_length)

  ends_are_ends : finished_chains turn digest (signature secret turn digest) ≡ chain_ends secret turn
  unfolding chain
  ends_are_ends =
      joined_same _ (λ i. chain_at secret turn i 15) 67
      (λ i h.
      ap (λ (x : List ℕ). walk turn i (digit digest i) (15 - digit digest i) x) (hash_at_joined chain 67 long_chain 67 (joined_to (sibling secret turn) 5) i (lit≤ tt) h)
      ∙ chains_meet turn i (digit digest i) (chain_start secret turn i) (digits_small digest i))

  path_is_path : (v : ℕ) → v < 5 → hash_at (67 + v) (signature secret turn digest) ≡ sibling secret turn v
  path_is_path v h =
      hash_behind 67 v (signed_chains secret turn digest) (joined_to (sibling secret turn) 5) chains_length
      ∙ ap (hash_at v) (sym (append-nil (joined_to (sibling secret turn) 5)))
      ∙ hash_at_joined (sibling secret turn) 5 (λ u l. tree_length secret u (beside (above turn u))) 5 [] v (lit≤ tt) h

  pub leads_to_root : turn ≤ 31 → leads_to turn digest (signature secret turn digest) ≡ root secret
  leads_to_root low =
      climb_same (λ level. hash_at (67 + level) (signature secret turn digest)) (sibling secret turn) turn (leaf turn (finished_chains turn digest (signature secret turn digest))) 5 path_is_path
      ∙ ap (λ (x : List ℕ). climb (sibling secret turn) turn (leaf turn x) 5) ends_are_ends
      ∙ paths_lead_up secret turn low

pub signatures_accepted : SignaturesAccepted
signatures_accepted secret digest turn low long =
    and_from (leb turn 31) _ (le-leb turn 31 low)
    (and_from (eqb (length digest) 32) _ (eq-eqb (length digest) 32 long)
    (and_from (eqb (length (signature secret turn digest)) 2304) _ (eq-eqb (length (signature secret turn digest)) 2304 (signature_length secret digest turn))
    ((bytes_eq-Decides (leads_to turn digest (signature secret turn digest)) (root secret)).1 (leads_to_root secret digest turn low))))

-- the chains and the path, written one behind the other into a lent buffer e
pub signature_written : (secret digest : List ℕ) (turn : ℕ) (chains path e : List ℕ) → chains ≡ signed_chains secret turn digest → path ≡ joined_to (sibling secret turn) 5 → put_mid 2144 160 (chains ++ drop 2144 e) path ≡ signature secret turn digest ++ drop 2304 e
signature_written secret digest turn chains path e p q =
    let long : length chains ≡ 2144 = ap length p ∙ chains_length secret digest turn in
    ap (λ (x : List ℕ). x ++ (path ++ drop 160 (drop 2144 (chains ++ drop 2144 e)))) (take_at chains (drop 2144 e) 2144 long)
    ∙ ap (λ (x : List ℕ). chains ++ (path ++ drop 160 x)) (drop_at chains (drop 2144 e) 2144 long)
    ∙ ap (λ (x : List ℕ). chains ++ (path ++ x)) (drop-drop 160 2144 e)
    ∙ sym (append_assoc chains path (drop 2304 e))
    ∙ ap (λ (x : List ℕ). (x ++ path) ++ drop 2304 e) p
    ∙ ap (λ (x : List ℕ). (signed_chains secret turn digest ++ x) ++ drop 2304 e) q
