-- What a signing leaves of a scheme that keeps pages, where `accepts` decides by the public key of a key and by what stands for the turn.
use Rattle.std.proofs.Common.{◌≡◌, ℕ, Bool, true, false, cond, ◌&&◌, eqb, List, Option, sym, refl, ap, ◌∙◌, inl, inr}
use Rattle.std.proofs.lemmas.Bool.{cases_Bool, eq-eqb, eqb-true, ne_eqb, and_parts, and_from, and_left, cond-true, cond-false}
use Rattle.schemes.specs.Meaning.{Keeps, Meaning}
use Rattle.schemes.specs.Pages.{at, public_of}
use Rattle.schemes.specs.declared.pages.Pages.{Pages}

module _ {T : Type 0} (blank : T) (is_spent : T → Bool) (accepts : Option (List ℕ) → T → ℕ → List ℕ → List ℕ → Bool) where
  abbrev pub means : Pages T → Meaning
  means p =
      record {
        public = public_of p;
        spent = λ k t. is_spent (at blank p k t);
        accepts = λ k t d s. accepts (public_of p k) (at blank p k t) t d s;
      }

  module _ (p p' : Pages T) where
    -- what is accepted for a key and a turn stays, where public key and entry do
    accepts_same : (k t : ℕ) (d s : List ℕ) → public_of p' k ≡ public_of p k → at blank p' k t ≡ at blank p k t → (means p').accepts k t d s ≡ (means p).accepts k t d s
    accepts_same k t d s q e =
        ap (λ (x : Option (List ℕ)). accepts x (at blank p' k t) t d s) q
        ∙ ap (λ (x : T). accepts (public_of p k) x t d s) e

    module _ (key turn : ℕ) (entry : T)
        (publics : (k : ℕ) → public_of p' k ≡ public_of p k)
        (turns : (k t : ℕ) → at blank p' k t ≡ cond (eqb k key && eqb t turn) entry (at blank p k t)) where
      new_entry : at blank p' key turn ≡ entry
      new_entry =
          turns key turn
          ∙ cond-true (eqb key key && eqb turn turn) entry (at blank p key turn) (and_from _ _ (eq-eqb key key refl) (eq-eqb turn turn refl))

      kept_entry : (k t : ℕ) → (eqb k key && eqb t turn) ≡ false → at blank p' k t ≡ at blank p k t
      kept_entry k t ne = turns k t ∙ cond-false (eqb k key && eqb t turn) entry (at blank p k t) ne

      pub sign_keeps : ((d s : List ℕ) → accepts (public_of p key) (at blank p key turn) turn d s ≡ true → accepts (public_of p key) entry turn d s ≡ true) → Keeps key (means p) (means p')
      sign_keeps here =
          record {
            stays =
                λ k t d s held. elim (cases_Bool (eqb k key && eqb t turn)) [
                  | inl both ↦
                      let same_key = eqb-true k key (and_parts _ _ both).0 in
                      let same_turn = eqb-true t turn (and_parts _ _ both).1 in
                      rw (same_key, same_turn)
                      (ap (λ (x : Option (List ℕ)). accepts x (at blank p' key turn) turn d s) (publics key)
                      ∙ ap (λ (x : T). accepts (public_of p key) x turn d s) new_entry
                      ∙ here d s (rw (sym same_key, sym same_turn) held))
                  | inr apart ↦ accepts_same k t d s (publics k) (kept_entry k t apart) ∙ held
                ];
            public = λ k ne. publics k;
            spent = λ k t ne. ap is_spent (kept_entry k t (and_left _ _ (ne_eqb k key ne)));
            accepts = λ k t d s ne. accepts_same k t d s (publics k) (kept_entry k t (and_left _ _ (ne_eqb k key ne)));
          }
