-- A port that was pushed is read from what was rebuilt.
use Rattle.std.proofs.Common.{◌≡◌, ℕ, ◌-◌, Bool, true, false, List, [], ◌∷◌, length, Option, Some, None, Ok, Err, refl, sym, ap, ◌∙◌, arith}
use Rattle.std.specs.Prelude.{slice_get, option_map, nat_lt, if◌then◌else◌}
use Rattle.wire_base.specs.Input.{Input}
use Rattle.svcb_spec.specs.declared.Reply.{Reply}
use Rattle.svcb_spec.specs.declared.Reply.TheVariants.{Accepted}
use Rattle.svcb_spec.specs.Laws.{RebuiltReadBack}
use Rattle.svcb_spec.specs.Params.{Pairs, wire}
use Rattle.svcb_spec.specs.Rebuilding.{Rebuilt, OverLimit, TooLong, accept, rebuild, rebuild_of, with_accepted, IsRebuilding}
use Rattle.svcb_spec.specs.Records.{Record, read, rdata}
use Rattle.svcb_spec.specs.Values.{Value, Port}
use Rattle.svcb_params.specs.Items.{typed_at}
use Rattle.svcb_rdata.specs.Laws.{AcceptedRead, AreRead}
use Rattle.svcb_rdata.specs.Reading.{next_record}

-- a whole message, from its start
pub whole_read : (message : List ℕ) (input : Input) (found : Record)
    → input ≡ record { message = message; end = length message; pos = 0 }
    → next_record input ≡ Ok found → read message 0 (length message) ≡ Ok found
whole_read message input found is answer =
    let all : length message ≡ length message - 0 = omega arith in
    ap (read message 0) all ∙ sym (ap next_record is) ∙ answer

-- the replies of a rebuilding are those of its pushes
same_replies : (over long : Bool) (octets : List ℕ) (replies : List Reply) (done : Rebuilt)
    → (if over then Err OverLimit
    else if long then Err TooLong else Ok (record { octets = octets; replies = replies })) ≡ Ok done
    → done.replies ≡ replies
same_replies true long octets replies done is = absurd cc
same_replies false true octets replies done is = absurd cc
same_replies false false octets replies done is = cc

replies_are : (message : List ℕ) (start len : ℕ) (values : List Value) (limit : ℕ) (found : Record)
    (done : Rebuilt) → IsRebuilding message start len values limit found done
    → done.replies ≡ (accept found.pairs limit values).replies
unfolding rebuild
replies_are message start len values limit found done is =
    let pushed = accept found.pairs limit values in
    same_replies (nat_lt limit (length (wire found.pairs)))
    (nat_lt 65535 (length (rdata found.priority found.labels pushed.pairs)))
    (rdata found.priority found.labels pushed.pairs) pushed.replies done
    (sym (ap (λ answer. rebuild_of answer values limit) is.read) ∙ is.rebuilt)

-- the first reply says that the port is read
first_read : (pairs : Pairs) (port : ℕ) (replies : List Reply)
    → AreRead pairs (Port port ∷ []) replies → slice_get replies 0 ≡ Some Accepted
    → typed_at 3 pairs ≡ Some (Port port)
first_read pairs port [] are first = absurd cc
first_read pairs port (reply ∷ replies) are first =
    let accepted : reply ≡ Accepted = cc in are.0 accepted refl

port_is : (port : ℕ) (result : Option ℕ) → option_map Port result ≡ Some (Port port)
    → result ≡ Some port
port_is port None is = absurd cc
port_is port (Some found) is = cc

pub pushed_is_read : AcceptedRead → RebuiltReadBack → (message : List ℕ) (limit port : ℕ)
    (before after : Record) (done : Rebuilt) (result : Option ℕ)
    → IsRebuilding message 0 (length message) (Port port ∷ []) limit before done
    → read done.octets 0 (length done.octets) ≡ Ok after
    → option_map Port result ≡ typed_at 3 after.pairs
    → slice_get done.replies 0 ≡ Some Accepted → result ≡ Some port
pushed_is_read are_read read_back message limit port before after done result is again got first =
    let values = Port port ∷ [] in
    let pushed = accept before.pairs limit values in
    let replies = replies_are message 0 (length message) values limit before done is in
    let whole = sym again
    ∙ read_back message 0 (length message) values limit before done is in
    let after_is : after ≡ with_accepted before values limit = cc in
    let held = are_read before.pairs limit values is.are_values in
    port_is port result
    (got ∙ ap (λ (found : Record). typed_at 3 found.pairs) after_is
    ∙ first_read pushed.pairs port pushed.replies held
    (sym (ap (λ (all : List Reply). slice_get all 0) replies) ∙ first))
