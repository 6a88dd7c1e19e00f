use Rattle.std.proofs.lemmas.Result.{IfOk-weaker}
use Rattle.command_words.proofs.ClapReading.{one_more}
use Rattle.command_words.proofs.options.profile_command.Goals as goal

pub returns : goal.returns
returns c =
    let mode = one_more c.in_ok-arg.ensures c.option.ensures.local c.new.ensures.app c.option.ensures.rule in
    let workers = one_more c.in_ok-arg-2.ensures c.option-2.ensures.local mode c.option-2.ensures.rule in
    let blocks = one_more c.in_ok-arg-3.ensures c.option-3.ensures.local workers c.option-3.ensures.rule in
    let size = one_more c.in_ok-arg-4.ensures c.option-4.ensures.local blocks c.option-4.ensures.rule in
    let piece = one_more c.in_ok-arg-5.ensures c.option-5.ensures.local size c.option-5.ensures.rule in
    let trace = one_more c.in_ok-arg-6.ensures c.option-6.ensures.local piece c.option-6.ensures.rule in
    let generate = one_more c.in_ok-arg-7.ensures c.option-7.ensures.local trace c.option-7.ensures.rule in
    let fold = one_more c.in_ok-arg-8.ensures c.flag.ensures.local generate c.flag.ensures.rule in
    IfOk-weaker c.arg-9.result _ _ (λ command adds. one_more adds c.file.ensures.local fold c.file.ensures.rule) c.arg-9.ensures
