use Rattle.put_side.specs.Cursors.{put_cursors}
use Rattle.put_side.specs.PutTable.{stage_of}
use Rattle.put_side.proofs.Few.{last_small}
use Rattle.drop_core.specs.Stage.{stage}
use Rattle.block_looks.proofs.Loads.{looks_on}
use Rattle.block_looks.proofs.law.look_law.Goals as goal

pub returns : goal.returns
returns c = λ g ws vs id v looks p limits sound room at holds may.
    let small = last_small (stage_of stage) g sound.front (put_cursors g ws) vs sound.at.puts.places limits room in
    let done = looks_on g sound.front ws vs limits sound.at small id v at looks holds p may in
    record { holds = done.0; shows = done.1 }
