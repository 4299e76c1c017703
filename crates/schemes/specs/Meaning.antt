use Rattle.std.specs.Prelude.{◌≡◌, ℕ, ◌≤◌, Bool, true, false, List, length, is_some, None, Option, ◌≢◌}

-- What a scheme means: for each key its public key or none, the turns that are spent, and what is accepted,
-- which is a key, a turn, a digest and a signature.
pub record Meaning : Type 0 where
  pub public : ℕ → Option (List ℕ)
  pub spent : ℕ → ℕ → Bool
  pub accepts : ℕ → ℕ → List ℕ → List ℕ → Bool

-- no key has a public key, no turn is spent, and nothing is accepted
pub record Fresh (m : Meaning) : Type 0 where
  pub public : (key : ℕ) → m.public key ≡ None
  pub spent : (key turn : ℕ) → m.spent key turn ≡ false
  pub accepts : (key turn : ℕ) (digest signature : List ℕ) → m.accepts key turn digest signature ≡ false

-- what can be accepted at all, where signatures are `siglen` bytes long
pub record Proper (siglen : ℕ) (m : Meaning) (key turn : ℕ) (digest signature : List ℕ) : Type 0 where
  pub known : is_some (m.public key) ≡ true
  pub key_low : key ≤ 15
  pub turn_low : turn ≤ 31
  pub digest_length : length digest ≡ 32
  pub signature_length : length signature ≡ siglen

-- A call about one key leaves what was accepted, and all that is said of every other key.
pub record Keeps (key : ℕ) (m m' : Meaning) : Type 0 where
  pub stays : (k t : ℕ) (d s : List ℕ) → m.accepts k t d s ≡ true → m'.accepts k t d s ≡ true
  pub public : (k : ℕ) → (k ≢ key) → m'.public k ≡ m.public k
  pub spent : (k t : ℕ) → (k ≢ key) → m'.spent k t ≡ m.spent k t
  pub accepts : (k t : ℕ) (d s : List ℕ) → (k ≢ key) → m'.accepts k t d s ≡ m.accepts k t d s
