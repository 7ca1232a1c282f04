-- How the values that contracts see are stored: each as its fields. Serves proofs alone.
use Rattle.std.specs.Prelude.{ℕ, Bool, List, refl}
use Rattle.std.specs.Coded.{Coded, code_by, coded×, coded_bool, coded_list, coded_ℕ}
use Rattle.std.specs.FinMap as map
use Rattle.std.specs.Ordering.{nat_cmp}
use Rattle.mac_order.specs.Buffer.{Buffer}

abbrev pub buffer_code : {Job : Type 0} → Coded Job → Coded (Buffer Job)
buffer_code {Job} job =
    code_by (ℕ × (List Job × (map.FinMap nat_cmp Job × Bool)))
    (coded× coded_ℕ (coded× (coded_list job) (coded× (map.code coded_ℕ job) coded_bool)))
    (λ b. (b.next, (b.slips, (b.answers, b.closed))))
    (λ p. record { next = p.0; slips = p.1.0; answers = p.1.1.0; closed = p.1.1.1 })
    (λ _. refl)
