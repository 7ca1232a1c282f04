-- How the values that contracts see are stored: each as its fields.
use Rattle.std.specs.Prelude.{refl}
use Rattle.std.specs.Coded.{Coded, code_by, coded×}
use Rattle.rtrb.specs.declared.consumer.Consumer.{Consumer}
use Rattle.mac_order.specs.Buffer.{Buffer}
use Rattle.mac_order.specs.Ring.{Exit}

abbrev pub exit_code : {Job A P : Type 0} → Coded (Consumer Job A P) → Coded (Buffer Job)
    → Coded (Exit Job A P)
exit_code {Job} {A} {P} ring buffer =
    code_by (Consumer Job A P × Buffer Job)
    (coded× ring buffer)
    (λ e. (e.ring, e.buffer))
    (λ p. record { ring = p.0; buffer = p.1 })
    (λ _. refl)
