-- What holds for each of four threads.

abbrev pub AllFour : {A : Type 0} → (A → Type 0) → (A × A) × (A × A) → Type 0
AllFour P four = P four.0.0 × P four.0.1 × P four.1.0 × P four.1.1
