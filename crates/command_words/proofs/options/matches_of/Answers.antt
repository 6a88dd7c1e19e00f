use Rattle.clap.specs.Words.{app_of}
use Rattle.std.proofs.lemmas.Result.{err_from_is_err_and}
use Rattle.command_words.specs.Texts.{texts_of}
use Rattle.command_words.proofs.ClapReading.{found_in, refused_in}
use Rattle.command_words.proofs.options.matches_of.Goals as goal

pub returns : goal.returns
returns c =
    found_in (app_of c.in_ok-profile_command.field-0) (texts_of c.args.line.now) c.in_ok-try_get_matches_from.field-0
    c.in_ok-profile_command.ensures c.in_ok-try_get_matches_from.ensures.kinds c.in_ok-try_get_matches_from.ensures.matches

pub returns-in_err-try_get_matches_from : goal.returns-in_err-try_get_matches_from
returns-in_err-try_get_matches_from c =
    let error = err_from_is_err_and c.from_residual-in_err-try_get_matches_from.result c.from_residual-in_err-try_get_matches_from.ensures.1 in
    rw (error.1, error.2)
    (refused_in (app_of c.in_ok-profile_command.field-0) (texts_of c.args.line.now) c.in_err-try_get_matches_from.field-0.0
    c.in_ok-profile_command.ensures c.in_err-try_get_matches_from.ensures.kinds)
