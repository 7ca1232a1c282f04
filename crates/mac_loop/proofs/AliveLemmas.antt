-- How lives begin, go on, come to rest and end in a loop.
use Rattle.std.proofs.Common.{◌≡◌, ℕ, List, [], ◌∷◌, refl, sym, subst, inl, inr}
use Rattle.std.proofs.Math.Logic.{∥∥₁_map}
use Rattle.std.specs.Prelude.{Bool, IsTrue, IsFalse, All, true, false, length, ◌<◌, Option, Some, None, IfSome, option_to_list}
use Rattle.std.proofs.Math.ListN.{get_or}
use Rattle.std.proofs.lemmas.List.Elements.{All-cons, All-nil}
use Rattle.std.proofs.lemmas.Option.{slice_get-get_or}
use Rattle.mac_board.specs.Noticed.{Current, Noticed}
use Rattle.mac_wire.specs.declared.session.Session.{Session}
use Rattle.mac_wire.specs.Session.{Stands}
use Rattle.mac_decide.specs.declared.job.Job.{Job}
use Rattle.mac_decide.specs.declared.rights.Rights.{Rights}
use Rattle.mac_plain.specs.Asking.{IsAsked}
use Rattle.mac_plain.specs.Client.{Answers, HasAnswered, StandsSo, arrivals, asked_job, may_move, replies}
use Rattle.mac_plain.specs.Rounds.{ServesEach}
use Rattle.mac_plain.specs.Lives.{IsUnder, Lives, Rests, Said}
use Rattle.mac_plain.proofs.Living.{asked-under, keeps-lives, keeps-step, moves-resting, recalled-under, rests-said, says, says-all, says-too-long}
use Rattle.mac_plain.specs.declared.course.Course.{Course}
use Rattle.mac_plain.specs.declared.course.Ended.TheVariants as ended
use Rattle.mac_plain.specs.declared.client.Client.{Client}
use Rattle.mac_loop.specs.Alive.{EndsWell, HasEndedWell, IsAlive}
use Rattle.mac_loop.specs.declared.port.SocketPort.{SocketPort}

-- a client's life, bare
abbrev LifeOf : Client SocketPort → Type 0
LifeOf client = Lives client.rights.value client.port.came client.port.went client.course client.session

-- a connection on which nothing has come rests
pub starts : (port : SocketPort) (rights : Rights) (session : Session) → port.came ≡ [] → port.went ≡ []
    → Stands session [] [] [] [] → ∥ Rests rights port.came port.went session ∥₁
starts port rights session came_is went_is s =
    subst (λ (came : List ℕ). ∥ Rests rights came port.went session ∥₁) (sym came_is)
    (subst (λ (went : List ℕ). ∥ Rests rights [] went session ∥₁) (sym went_is)
    ∣ record { done = []; under = All-nil (IsUnder rights); stands = s } ∣₁)

-- a client goes on from what rested
pub begins : (client : Client SocketPort) (port : SocketPort) (rights : Rights) (session : Session)
    → client.rights.value ≡ rights → client.port ≡ port
    → ((read written : List ℕ) (done : List Job) → Stands session read written (arrivals done) (replies done) → HasAnswered client read written done)
    → ∥ Rests rights port.came port.went session ∥₁ → IsAlive client
begins client port rights session rights_are port_is stands rests = ∥∥₁_map rests alive where
  alive : Rests rights port.came port.went session → LifeOf client
  alive r = record {
    done = r.done;
    under = subst (λ (x : Rights). All (IsUnder x) r.done) (sym rights_are) r.under;
    stands = subst (λ (p : SocketPort). StandsSo client.course client.session p.came p.went r.done) (sym port_is) (stands port.came port.went r.done r.stands);
  }

-- a client that may move rests
pub leaves : (client : Client SocketPort) → IsTrue (may_move client.course) → IsAlive client → ∥ Rests client.rights.value client.port.came client.port.went client.session ∥₁
leaves client may alive =
    ∥∥₁_map alive (λ (l : LifeOf client). moves-resting client.rights.value client.port.came client.port.went client.course client.session may l)

-- a round keeps each client alive
pub keeps : (known : Noticed) (olds news : List (Client SocketPort)) → ServesEach true (λ (p : SocketPort). p.came) (λ (p : SocketPort). p.went) known olds news
    → length news ≡ length olds → All IsAlive olds → All IsAlive news
keeps known olds news s same alive k d below =
    let below_old : k < length olds = subst (λ (n : ℕ). k < n) same below in
    let before = get_or olds k d in
    let after = get_or news k d in
    let served = s.each k before after (slice_get-get_or olds k d below_old) (slice_get-get_or news k d below) in
    ∥∥₁_map (alive k d below_old) (λ (l : LifeOf before).
    keeps-lives true (λ (p : SocketPort). p.came) (λ (p : SocketPort). p.went) s.current before after refl served l)

-- a step that answers nothing keeps a client alive
pub keeps-still : (before after : Client SocketPort) → after.rights ≡ before.rights
    → Answers true (λ (p : SocketPort). p.came) (λ (p : SocketPort). p.went) before after [] → IsAlive before → IsAlive after
keeps-still before after same answers alive =
    ∥∥₁_map alive (λ (l : LifeOf before).
    keeps-step true (λ (p : SocketPort). p.came) (λ (p : SocketPort). p.went) before after [] refl same (All-nil (IsUnder before.rights.value)) answers l)

-- a client stays alive that asks a worker, or doesn't
pub keeps-asking : (current : Current) (before after : Client SocketPort) (job : Option Job) → IfSome job (λ j. IsAsked current before after j) → after.rights ≡ before.rights
    → Answers true (λ (p : SocketPort). p.came) (λ (p : SocketPort). p.went) before after (option_to_list job) → IsAlive before → IsAlive after
keeps-asking current before after None asked same answers alive = keeps-still before after same answers alive
keeps-asking current before after (Some job) asked same answers alive =
    ∥∥₁_map alive (λ (l : LifeOf before).
    keeps-step true (λ (p : SocketPort). p.came) (λ (p : SocketPort). p.went) before after (job ∷ []) refl same
    (All-cons (IsUnder before.rights.value) job [] (asked-under current before after job before.port.came before.port.went asked l) (All-nil (IsUnder before.rights.value))) answers l)

-- a client stays alive that has the reply at once, or hasn't
pub keeps-recalling : (told : Bool) (current : Current) (before after : Client SocketPort)
    → (IsTrue told → Answers true (λ (p : SocketPort). p.came) (λ (p : SocketPort). p.went) before after (asked_job current before ∷ []))
    → (IsFalse told → after ≡ before) → after.rights ≡ before.rights → IsAlive before → IsAlive after
keeps-recalling true current before after answers same rights alive =
    ∥∥₁_map alive (λ (l : LifeOf before).
    keeps-step true (λ (p : SocketPort). p.came) (λ (p : SocketPort). p.went) before after (asked_job current before ∷ []) refl rights
    (All-cons (IsUnder before.rights.value) (asked_job current before) [] (recalled-under current before) (All-nil (IsUnder before.rights.value))) (answers refl) l)
keeps-recalling false current before after answers same rights alive = subst IsAlive (sym (same refl)) alive

-- what is said of a client, however it ends
pub speaks : (client : Client SocketPort) → IsAlive client → ∥ Said client.rights.value client.port.came client.port.went ∥₁
speaks client alive =
    ∥∥₁_map alive (λ (l : LifeOf client). says client.rights.value client.port.came client.port.went client.course client.session l)

-- who ends well was sent all
pub speaks-all : (client : Client SocketPort) → EndsWell client → IsAlive client → ∥ HasEndedWell client.rights.value client.port.came client.port.went ∥₁
speaks-all client well alive =
    let lives : Course → Type 0 = λ (c : Course). Lives client.rights.value client.port.came client.port.went c client.session in
    ∥∥₁_map alive (λ (l : LifeOf client).
    elim well.whole [
      | inl long ↦ inr (says-too-long client.rights.value client.port.came client.port.went client.session well.sent (subst lives long l))
      | inr (peer, whole) ↦ inl (says-all client.rights.value client.port.came client.port.went ended.Peer client.session well.sent whole (subst lives peer l))
    ])

-- what is said of a connection between two requests
pub rested-speaks : (rights : Rights) (came went : List ℕ) (session : Session) → ∥ Rests rights came went session ∥₁ → ∥ Said rights came went ∥₁
rested-speaks rights came went session rests = ∥∥₁_map rests (λ (r : Rests rights came went session). rests-said rights came went session r)
