-- What several threads answered of the jobs of a round, put together.
use Rattle.std.proofs.Common.{◌≡◌, ℕ, suc, ◌+◌, ◌*◌, ◌/◌, ◌%◌, ◌≤◌, ◌<◌, List, [], ◌∷◌, ◌++◌, Result, Ok, IfOk, map, length, take, drop, get_or, refl, sym, ap, subst, ◌∙◌, append_assoc, arith}
use Rattle.std.specs.Prelude.{min}
use Rattle.std.specs.Global.{Vec}
use Rattle.std.proofs.Math.Nat.{div-add-mod, mod-lt, suc-mul, zero-mul}
use Rattle.std.proofs.lemmas.List.{append-nil, drop-drop, drop-map, length-drop, map-append, take-append-drop, take-map}
use Rattle.std.proofs.lemmas.List.Elements.{All-append}
use Rattle.mac_wire.specs.Reply.{IsReply}
use Rattle.mac_wire.specs.declared.reply.Reply.{Reply}
use Rattle.mac_decide.specs.declared.job.Job.{Job}
use Rattle.mac_decide.specs.Prepared.{reply_to_job}
use Rattle.mac_plain.specs.Shares.{AreRepliesTo}

-- each share has the replies to so many of the jobs, if any, and the last to those that are left
abbrev pub AreShares : {E : Type 0} → ℕ → List Job → List (Result (Vec Reply) E) → Type 0
AreShares size jobs [] = jobs ≡ []
AreShares size jobs (share ∷ shares) =
    IfOk share (λ replies. AreRepliesTo (take size jobs) replies.items) × AreShares size (drop size jobs) shares

-- these are replies to the first jobs, and the shares have those to the others
pub record Joins {E : Type 0} (size : ℕ) (jobs : List Job) (replies : List Reply) (shares : List (Result (Vec Reply) E)) : Type 0 where
  pub done : List Job
  pub left : List Job
  pub all : done ++ left ≡ jobs
  pub replies_are : AreRepliesTo done replies
  pub shares_are : AreShares size left shares

pub joins_begin : {E : Type 0} (size : ℕ) (jobs : List Job) (replies : List Reply) (shares : List (Result (Vec Reply) E))
    → replies ≡ [] → AreShares size jobs shares → Joins size jobs replies shares
joins_begin size jobs replies shares none are = record {
  done = [];
  left = jobs;
  all = refl;
  replies_are = rw none (refl, (λ k d less. absurd (omega (arith, less))));
  shares_are = are;
}

pub joins_next : {E : Type 0} (size : ℕ) (jobs : List Job) (replies : List Reply) (share : Vec Reply) (shares : List (Result (Vec Reply) E))
    → Joins size jobs replies (Ok share ∷ shares) → Joins size jobs (replies ++ share.items) shares
joins_next size jobs replies share shares joins = record {
  done = joins.done ++ take size joins.left;
  left = drop size joins.left;
  all = append_assoc joins.done (take size joins.left) (drop size joins.left)
      ∙ ap (λ l. joins.done ++ l) (take-append-drop size joins.left) ∙ joins.all;
  replies_are = (
    ap (λ l. l ++ share.items) joins.replies_are.0
        ∙ ap (λ l. map reply_to_job joins.done ++ l) joins.shares_are.0.0
        ∙ sym (map-append reply_to_job joins.done (take size joins.left)),
    All-append IsReply replies share.items joins.replies_are.1 joins.shares_are.0.1,
  );
  shares_are = joins.shares_are.1;
}

pub joins_end : {E : Type 0} (size : ℕ) (jobs : List Job) (replies : List Reply) (shares : List (Result (Vec Reply) E))
    → shares ≡ [] → Joins size jobs replies shares → AreRepliesTo jobs replies
joins_end size jobs replies shares none joins =
    let left : joins.left ≡ [] = subst (AreShares size joins.left) none joins.shares_are in
    subst (λ l. AreRepliesTo l replies)
    (sym (append-nil joins.done) ∙ ap (λ l. joins.done ++ l) (sym left) ∙ joins.all) joins.replies_are

-- what is cut into chunks is as long as they are together
pub counted : (size all : ℕ) → 0 < size → all ≤ (all / size + min 1 (all % size)) * size
counted size all some =
    let cut = div-add-mod all size in
    let less = mod-lt all some in
    search (arith, cut, less)

pub no_more : {X : Type 0} (xs : List X) → length xs ≤ 0 → xs ≡ []
no_more [] few = refl
no_more (x ∷ xs) few = absurd (omega (arith, few))

next_chunk : {X : Type 0} (size n : ℕ) (xs : List X) → drop (suc n * size) xs ≡ drop (n * size) (drop size xs)
next_chunk size n xs = ap (λ k. drop k xs) (omega (arith, suc-mul n size)) ∙ sym (drop-drop (n * size) size xs)

-- chunks that are answered, each by itself, are shares
pub are_shares : {E X : Type 0} (size : ℕ) (view : X → Job) (xs : List X) (shares : List (Result (Vec Reply) E))
    → ((n : ℕ) (d : Result (Vec Reply) E) → n < length shares
    → IfOk (get_or shares n d) (λ replies. AreRepliesTo (map view (take size (drop (n * size) xs))) replies.items))
    → length xs ≤ length shares * size → AreShares size (map view xs) shares
are_shares size view xs [] each long = ap (map view) (no_more xs (omega (arith, long)))
are_shares size view xs (share ∷ shares) each long =
    let first = subst (λ k. IfOk share (λ replies. AreRepliesTo (map view (take size (drop k xs))) replies.items)) (zero-mul size) (each 0 share (omega arith)) in (
      subst (λ l. IfOk share (λ replies. AreRepliesTo l replies.items)) (sym (take-map view size xs)) first,
      subst (λ l. AreShares size l shares) (sym (drop-map view size xs))
          (are_shares size view (drop size xs) shares
          (λ n d less. subst (λ l. IfOk (get_or shares n d) (λ replies. AreRepliesTo (map view (take size l)) replies.items))
          (next_chunk size n xs) (each (suc n) d (omega (arith, less))))
          (omega (arith, long, length-drop size xs, suc-mul (length shares) size))),
    )
