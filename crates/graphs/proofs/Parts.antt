-- Components are equal rows of the closure.
use Rattle.std.proofs.Common.{◌≡◌, ℕ, ◌^◌, ◌<◌, ◌≤◌, Bool, List, length, get_or, sym, refl, ◌∙◌, ⊎_elim, arith}
use Rattle.std.specs.Str.{bytes_eq}
use Rattle.std.proofs.lemmas.Slice.Eq.{bytes_eq-Decides}
use Rattle.std.proofs.lemmas.Bool.{cases_lt}
use Rattle.std.proofs.lemmas.Bool.Decides.{same_from_decides, Decides-like}
use Rattle.numbering.specs.Keys.{Numbered}
use Rattle.graphs.specs.Matrix.{bit, row_at}
use Rattle.graphs.proofs.Rows.{row_bits, row_ext}
use Rattle.graphs.specs.Paths.{here, Closure}
use Rattle.graphs.specs.Components.{Mutual, Components}
use Rattle.graphs.proofs.Closing.{reaches_append}

pub mutual_sym : {edge : ℕ → ℕ → Bool} {u v : ℕ} → Mutual edge u v → Mutual edge v u
mutual_sym p = record { there = p.back; back = p.there }

module _ (edge : ℕ → ℕ → Bool) (m : List ℕ) (c : Closure edge m) where
  rows_mutual : (u v : ℕ) → u < 256 → v < 256 → row_at 8 m u ≡ row_at 8 m v → Mutual edge u v
  rows_mutual u v hu hv e = record {
    there = (c u v hu hv).0 (row_bits 8 m u v e v hv ∙ (c v v hv hv).1 here);
    back = (c v u hv hu).0 (sym (row_bits 8 m u v e u hu) ∙ (c u u hu hu).1 here);
  }

  module _ (typed : (i : ℕ) → get_or m i 0 < 2 ^ 32) (long : length m ≡ 2048) where
    mutual_rows : (u v : ℕ) → u < 256 → v < 256 → Mutual edge u v → row_at 8 m u ≡ row_at 8 m v
    mutual_rows u v hu hv p =
        row_ext 8 m u v typed (omega arith) (omega arith)
        (λ w hw. same_from_decides (bit m u w) (bit m v w) (c u w hu hw)
        (Decides-like (bit m v w) (reaches_append p.there) (reaches_append p.back) (c v w hv hw)))

    pub components_rows : (lowest : List ℕ) → Numbered (λ i j. bytes_eq (row_at 8 m i) (row_at 8 m j)) lowest 256 → Components edge lowest
    components_rows lowest n u hu =
        let f = get_or lowest u 0 in
        let is = n u hu in
        let decides = λ (i j : ℕ). bytes_eq-Decides (row_at 8 m i) (row_at 8 m j) in
        let hf : f ≤ u = ⊎_elim (λ lt. absurd (is.least u lt ((decides u u).1 refl))) (λ le. le) (cases_lt u f) in
        record {
          member = mutual_sym (rows_mutual f u (omega arith) hu ((decides f u).0 is.alike));
          least = λ v lt p. is.least v lt ((decides v u).1 (mutual_rows v u (omega arith) hu (mutual_sym p)));
        }
