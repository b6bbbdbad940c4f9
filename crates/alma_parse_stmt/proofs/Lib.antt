mod LoopFronts
