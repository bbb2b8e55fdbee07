-- What the walker's and the string getter's answers come to in 01's words.
use Prim.Native.Nat.{◌-◌}
use mathlib.Core.Path.{◌≡◌, refl, ap}
use lib.ListN.{length, replicate}
use lib.Seq.{take-append_seam}
use Rattle.std.specs.Borrow.{Bor}
use mathlib.Core.List.{List}
use Prim.Native.Nat.{ℕ}
use Rattle.std.specs.Prelude.{Ok, Err}
use Rattle.wing_node.specs.Result.{Result}
use Rattle.wing_node.specs.Value.{MaybeString, no_string, some, string_in, answer_of}
use Rattle.wing_node.specs.Items.{begin_of}
use Rattle.wing_node.specs.Walker.{opened_at}
use Rattle.wing_node.specs.Answers.{opened_result, string_result, AnswersAgree}
use Rattle.wing_node.specs.declared.items.Walk.{Walk}

opened-as : (b : Bor (List ℕ)) (w : Result Walk) → opened_result (opened_at b w) ≡ w
opened-as b (Ok w) = refl
opened-as b (Err why) = refl

string-result : (m : MaybeString) → string_result (answer_of m) ≡ m
unfolding answer_of
string-result no_string = refl
string-result (some s) = ap some (take-append_seam s (replicate (256 - length s) 0))

pub answers_agree : AnswersAgree
answers_agree =
    record {
      opened = λ body. opened-as body (begin_of body.now);
      string = λ v. string-result (string_in v);
    }
