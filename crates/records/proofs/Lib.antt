mod ShutOut
